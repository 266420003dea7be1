-- A row of truth values says where the test is true; at the rest of the N states it is false. Any other row has no truth value at
-- any state.
use Prim.Native.Nat.{ℕ}
use native.Mathlib.Omega.{arith}
use mathlib.Core.Bool.{Bool, true, false, not, ◌&&◌, and-false}
use mathlib.Core.List.{List}
use mathlib.Core.Option.{some}
use mathlib.Core.Path.{◌≡◌, refl, sym, ap, ◌∙◌}
use borrow.Author.Rules.{rules}
use borrow.Author.Tests.{lt-ltb, le-ltb}
use lib.Dec.{ltb}
use Rattle.std.specs.Prelude.{Some, None}
use Rattle.std.specs.Prelude as std
use Rattle.states.specs.declared.StateSet.{StateSet}
use Rattle.states.specs.Sets.{capacity}
use Rattle.semantics.specs.Language.{truth}
use Rattle.semantics.specs.States.{value, is_truth}
use Rattle.semantics.specs.Conditions.{is_true, is_false}
use Rattle.handler.specs.declared.head.Head.{Head}
use Rattle.handler.specs.Header.{machine_in}
use Rattle.handler.specs.Terms.{expr_in}
use Rattle.evaluation.specs.declared.Values.{Values}
use Rattle.evaluation.specs.declared.Values.TheVariants.{Integers, Truths}
use Rattle.evaluation.specs.Refinement.{value_in, Evaluated}
use Rattle.evaluation.proofs.Sizes.{split}
use Rattle.evaluation.proofs.Laws.{states_most}
use Rattle.evaluation.proofs.truths_at.Goals.{in_default-via-in-Some+in_default, in_default-via-in_default}
use Rattle.evaluation.proofs.truths_at.Goals as goal

no_truth : (wanted : Bool) (row : std.Option Values) → ((set : StateSet) → row ≡ Some (Truths set) → ⊥) → (s : ℕ) → false ≡ is_truth wanted (value_in row s)
no_truth wanted None other s = refl
no_truth wanted (Some (Integers row)) other s = refl
no_truth wanted (Some (Truths set)) other s = absurd (other set refl)

not_as : (b : Bool) → not b ≡ is_truth false (some (truth b))
not_as true = refl
not_as false = refl

-- What a row says about the test at each state.
module _ (head : Head) (table : List ℕ) (expr : ℕ) (row : std.Option Values) (known : Evaluated head table expr row) where
  unfoldable test : Bool → ℕ → Bool
  test wanted s = ltb s (machine_in head).states && is_truth wanted (value (machine_in head) (expr_in table expr) s)

  tested : (wanted : Bool) (s n : ℕ) (b : Bool) → n ≡ (machine_in head).states → b ≡ is_truth wanted (value_in row s)
      → (ltb s capacity && ltb s n && b) ≡ test wanted s
  unfolding test
  tested wanted s n b all is =
      split s n
      (λ l. rw (← all, lt-ltb s n l, lt-ltb s capacity (omega (arith, states_most head))) (is ∙ ap (is_truth wanted) (known.each s (rw (← all) l))))
      (λ l. rw (← all, le-ltb s n l, and-false (ltb s capacity)))

  none_true : ((set : StateSet) → row ≡ Some (Truths set) → ⊥) → (wanted : Bool) (s : ℕ) → false ≡ test wanted s
  none_true other wanted s =
      sym (and-false (ltb s capacity && ltb s (machine_in head).states)) ∙ tested wanted s _ false refl (no_truth wanted row other s)

pub returns-in_default : goal.returns-in_default
unfolding is_true is_false test
returns-in_default c =
    let other : (set : StateSet) → c.values_at.result ≡ Some (Truths set) → ⊥
    = elim c.in_default.branch [ in_default-via-in-Some+in_default w ↦ search rules | in_default-via-in_default w ↦ search rules ] in
    let none = none_true _ _ _ _ c.values_at.ensures other in
    record { holding = λ s. c.empty-none.ensures s ∙ none true s; failing = λ s. c.empty-none.ensures s ∙ none false s }

pub returns : goal.returns
unfolding is_true is_false test
returns c =
    let known = rw c.in-Some-Truths.field-0-is at c.in-Some-Truths.ensures in
    let all = c.states_in-n.ensures in
    record {
      holding = λ s. rw (c.meet.ensures s, c.below-states.ensures s) (tested _ _ _ _ known true s _ _ all refl);
      failing = λ s. rw (c.narrow.ensures s, c.below-states.ensures s) (tested _ _ _ _ known false s _ _ all (not_as _));
    }
