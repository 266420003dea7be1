-- The tables of both sides are numbered; the counts decide, and then the lengths.
use Prim.Native.Nat.{ℕ}
use mathlib.Core.Bool.{true, false}
use mathlib.Core.List.{List, []}
use mathlib.Core.Path.{◌≡◌, sym, ◌∙◌, ap}
use native.Mathlib.Omega.{arith}
use lib.ListN.{length}
use Rattle.std.specs.Prelude.{Err}
use Rattle.states.specs.Sets.{has}
use Rattle.states.specs.Relations.{rel}
use Rattle.derivation.proofs.Buffers.{length_tabulate}
use Rattle.form.specs.Members.{set_where, relation_where}
use Rattle.joint.specs.Composing.{Side, plain, limited}
use Rattle.rules.specs.Words.{word_relation, word_spec}
use Rattle.composition.specs.Answers.{Composed, turned}
use Rattle.composition.specs.declared.forms.Form.{Form}
use Rattle.composition.specs.declared.joining.Handlers.{Handlers}
use Rattle.composition.specs.declared.numbering.SetNumbers.{SetNumbers}
use Rattle.composition.specs.declared.numbering.RelationNumbers.{RelationNumbers}
use Rattle.composition.specs.declared.tables.Roots.{Roots}
use Rattle.composition.specs.Refinement.{Joint, sets_held, relations_held, SetsNumbered, RelationsNumbered, AllSmall, files_of, small_counts, Ready}
use Rattle.composition.proofs.Limits.{HeldSets, HeldRelations, limited_not, names_small, limited_is, few_tables}
use Rattle.composition.proofs.Held.{held_sets, held_relations}
use Rattle.composition.proofs.Leaving.{Leaves, leaves_same, leaves_refused}
use Rattle.composition.proofs.joining.join.Goals as goal

-- The numbers are those of the tables of both sides.
module _ (n : ℕ) (both : Handlers) (f g : Form) (words others : List ℕ) (roots : Roots)
    (joint : Joint n (word_spec n words f.names) (word_spec n others g.names) roots) (m : SetNumbers) (k : RelationNumbers) (sets relations : List ℕ)
    (for_sets : SetsNumbered (set_where n (has roots.p)) (sets_held n words f.head.sets) (sets_held n others g.head.sets) (sets_held n sets m.count) m)
    (for_relations : RelationsNumbered (relation_where n (rel n roots.r)) (relation_where n (rel n roots.g)) (relation_where n (rel n roots.q))
    (relation_where n (rel n roots.left)) (relation_where n (word_relation n words f.names.g)) (relation_where n (word_relation n words f.names.q))
    (relations_held n words f.head.relations) (relation_where n (rel n roots.right)) (relation_where n (word_relation n others g.names.g))
    (relation_where n (word_relation n others g.names.q)) (relations_held n others g.head.relations) (relations_held n relations k.right.count) k)
    (A B : Side) (ra : Ready n A both.first f words) (rb : Ready n B both.second g others) where
  abbrev S : List ℕ
  S = sets_held n sets m.count

  abbrev T : List ℕ
  T = relations_held n relations k.right.count

  are_sets : HeldSets n A B both f g words others ra rb m k S T S
  are_sets = held_sets n A B both f g words others ra rb roots joint m k S T for_sets

  are_relations : HeldRelations n A B both f g words others ra rb m k S T T
  are_relations = held_relations n A B both f g words others ra rb roots joint m k S T for_relations

  long_S : length S ≡ m.count
  unfolding sets_held
  long_S = length_tabulate _ _

  long_T : length T ≡ k.right.count
  unfolding relations_held
  long_T = length_tabulate _ _

  small_names : small_counts both.first both.second f.head g.head m.count k.right.count ≡ true → AllSmall k
  small_names few = names_small n A B both f g words others ra rb m k S T are_sets are_relations long_S long_T [] [] few

  -- What the counts decide.
  module _ (h h' hout pout : List ℕ) where
    files : small_counts both.first both.second f.head g.head m.count k.right.count ≡ true → (r : Composed) (H P : List ℕ)
        → Leaves hout pout (files_of n h h' both f g S m T k) r H P → Leaves hout pout (limited h h' A B both.steps) r H P
    files few =
        leaves_same hout pout _ _ (limited_is n A B both f g words others ra rb m k S T are_sets are_relations long_S long_T h h' few)

    no_files : small_counts both.first both.second f.head g.head m.count k.right.count ≡ false → (r : Composed) → r ≡ Err (turned 0 (plain 94))
        → Leaves hout pout (limited h h' A B both.steps) r hout pout
    no_files many =
        leaves_refused hout pout _ 0 (plain 94)
        (limited_not n A B both f g words others ra rb m k S T are_sets are_relations long_S long_T h h' many)

pub number_sets-m-requires : goal.number_sets-m-requires
number_sets-m-requires c = let p = c.requires.0 in (
  omega arith,
  omega (arith, p.first.of_form.set_count, p.first.room.sets_most),
  omega (arith, p.second.of_form.set_count, p.second.room.sets_most),
)

pub number_relations-k-requires : goal.number_relations-k-requires
number_relations-k-requires c = let p = c.requires.0 in (
  p.first.room.states_most,
  c.requires.1,
  omega (arith, p.first.of_form.relation_count, p.first.room.relations_most),
  omega (arith, p.second.of_form.relation_count, p.second.room.relations_most),
)

pub write_both-requires : goal.write_both-requires
write_both-requires c =
    let a = c.args in
    let p = c.requires.0 in
    let few = sym c.is_small.ensures ∙ c.if-is_small.true in
    let x = p.first in
    let y = p.second in
    let small = small_names a.n a.both a.f a.g a.words.now a.others.now _ c.roots_of-roots.ensures _ _ _ _ c.number_sets-m.ensures
    c.number_relations-k.ensures p.A p.B x y few
    in
    let rooms = few_tables _ _ _ _ _ _ few in
    (x.room.states_least, x.room.states_most, rooms.0, rooms.1, small, x.of_handler.placed, y.of_handler.placed)

pub returns-then-is_small : goal.returns-then-is_small
returns-then-is_small c =
    let a = c.args in
    let few = sym c.is_small.ensures ∙ c.if-is_small.true in
    let w = c.write_both.ensures in
    let all = λ (A B : Side) (x : Ready a.n A a.both.first a.f a.words.now) (y : Ready a.n B a.both.second a.g a.others.now).
    files a.n a.both a.f a.g a.words.now a.others.now _ c.roots_of-roots.ensures _ _ _ _ c.number_sets-m.ensures
    c.number_relations-k.ensures A B x y a.first.now a.second.now a.hout.now a.pout.now few _ _ _ (w.answer, (w.handler, w.proof))
    in
    record {
      answer = λ A B x y. (all A B x y).0;
      handler = λ A B x y. (all A B x y).1.0;
      proof = λ A B x y. (all A B x y).1.1;
    }

pub returns-else-is_small : goal.returns-else-is_small
returns-else-is_small c =
    let a = c.args in
    let many = sym c.is_small.ensures ∙ c.if-is_small.false in
    let all = λ (A B : Side) (x : Ready a.n A a.both.first a.f a.words.now) (y : Ready a.n B a.both.second a.g a.others.now).
    no_files a.n a.both a.f a.g a.words.now a.others.now _ c.roots_of-roots.ensures _ _ _ _ c.number_sets-m.ensures
    c.number_relations-k.ensures A B x y a.first.now a.second.now a.hout.now a.pout.now many _ (ap Err c.refusal.ensures)
    in
    record {
      answer = λ A B x y. (all A B x y).0;
      handler = λ A B x y. (all A B x y).1.0;
      proof = λ A B x y. (all A B x y).1.1;
    }
