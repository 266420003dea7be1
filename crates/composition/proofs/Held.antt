-- The numbers that the code finds are those of the tables of both sides.
use Prim.Native.Nat.{ℕ}
use mathlib.Core.List.{List}
use mathlib.Core.Path.{◌≡◌, ◌∙◌, ap, subst, fun_ext}
use Rattle.states.specs.Sets.{has}
use Rattle.states.specs.Relations.{rel}
use Rattle.rules.specs.Words.{word_relation, word_spec}
use Rattle.form.specs.Members.{set_where, relation_where}
use Rattle.composition.specs.declared.tables.Roots.{Roots}
use Rattle.composition.specs.declared.forms.Form.{Form}
use Rattle.composition.specs.declared.joining.Handlers.{Handlers}
use Rattle.composition.specs.declared.numbering.SetNumbers.{SetNumbers}
use Rattle.composition.specs.declared.numbering.RelationNumbers.{RelationNumbers}
use Rattle.joint.specs.Composing.{Side}
use Rattle.composition.specs.Refinement.{Joint, sets_held, relations_held, SetsNumbered, RelationsNumbered, Ready}
use Rattle.composition.proofs.Limits.{HeldSets, HeldRelations}

sets_by : (p p' : ℕ) (xs xs' ys ys' held : List ℕ) (m : SetNumbers) → p ≡ p' → xs ≡ xs' → ys ≡ ys' → SetsNumbered p xs ys held m → SetsNumbered p' xs' ys' held m
sets_by p p' xs xs' ys ys' held m e₁ e₂ e₃ so = rw (← e₁, ← e₂, ← e₃) so

relations_by : (r r' g g' q q' lr lr' lg lg' lq lq' : ℕ) (xs xs' : List ℕ) (rr rr' rg rg' rq rq' : ℕ) (ys ys' held : List ℕ) (k : RelationNumbers)
    → r ≡ r' → g ≡ g' → q ≡ q' → lr ≡ lr' → lg ≡ lg' → lq ≡ lq' → xs ≡ xs' → rr ≡ rr' → rg ≡ rg' → rq ≡ rq' → ys ≡ ys'
    → RelationsNumbered r g q lr lg lq xs rr rg rq ys held k → RelationsNumbered r' g' q' lr' lg' lq' xs' rr' rg' rq' ys' held k
relations_by r r' g g' q q' lr lr' lg lg' lq lq' xs xs' rr rr' rg rg' rq rq' ys ys' held k e₁ e₂ e₃ e₄ e₅ e₆ e₇ e₈ e₉ e₁₀ e₁₁ so =
    rw (← e₁, ← e₂, ← e₃, ← e₄, ← e₅, ← e₆, ← e₇, ← e₈, ← e₉, ← e₁₀, ← e₁₁) so

module _ (n : ℕ) (A B : Side) (both : Handlers) (f g : Form) (words others : List ℕ)
    (ra : Ready n A both.first f words) (rb : Ready n B both.second g others) (roots : Roots) (joint : Joint n (word_spec n words f.names) (word_spec n others g.names) roots) (m : SetNumbers) (k : RelationNumbers)
    (S T : List ℕ) where
  -- The new tables by the sides' own.
  joint_of : Joint n A.tables B.tables roots
  joint_of =
      subst (λ c. Joint n c B.tables roots) ra.of_form.tables_are
      (subst (λ c. Joint n (word_spec n words f.names) c roots) rb.of_form.tables_are joint)

  -- A relation of rows by its pairs.
  by_pairs : (rows : List ℕ) (r : ℕ → ℕ → _) → ((s t : ℕ) → rel n rows s t ≡ r s t) → relation_where n (rel n rows) ≡ relation_where n r
  by_pairs rows r same = ap (relation_where n) (fun_ext (λ s. fun_ext (λ t. same s t)))

  pub held_sets : SetsNumbered (set_where n (has roots.p)) (sets_held n words f.head.sets) (sets_held n others g.head.sets) S m
      → HeldSets n A B both f g words others ra rb m k S T S
  held_sets so =
      sets_by _ _ _ _ _ _ S m (ap (set_where n) (fun_ext joint_of.P-is)) (ap (sets_held n words) ra.of_form.set_count ∙ ra.of_form.sets_are)
      (ap (sets_held n others) rb.of_form.set_count ∙ rb.of_form.sets_are) so

  pub held_relations : RelationsNumbered (relation_where n (rel n roots.r)) (relation_where n (rel n roots.g)) (relation_where n (rel n roots.q))
      (relation_where n (rel n roots.left)) (relation_where n (word_relation n words f.names.g)) (relation_where n (word_relation n words f.names.q))
      (relations_held n words f.head.relations) (relation_where n (rel n roots.right)) (relation_where n (word_relation n others g.names.g))
      (relation_where n (word_relation n others g.names.q)) (relations_held n others g.head.relations) T k
      → HeldRelations n A B both f g words others ra rb m k S T T
  held_relations so =
      let j = joint_of in
      relations_by _ _ _ _ _ _ _ _ _ _ _ _ _ _ _ _ _ _ _ _ _ _ T k (by_pairs _ _ j.R-is) (by_pairs _ _ j.G-is) (by_pairs _ _ j.Q-is)
      (by_pairs _ _ j.left_R_is) (ap (λ c. relation_where n c.G) ra.of_form.tables_are) (ap (λ c. relation_where n c.Q) ra.of_form.tables_are)
      (ap (relations_held n words) ra.of_form.relation_count ∙ ra.of_form.relations_are) (by_pairs _ _ j.right_R_is)
      (ap (λ c. relation_where n c.G) rb.of_form.tables_are) (ap (λ c. relation_where n c.Q) rb.of_form.tables_are)
      (ap (relations_held n others) rb.of_form.relation_count ∙ rb.of_form.relations_are) so
