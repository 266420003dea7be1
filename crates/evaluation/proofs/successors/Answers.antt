-- Row s holds the state after the store at s. The loop fills the rows below s; those from N on stay empty, because no store starts
-- there.
use Prim.Native.Nat.{ℕ, ◌≤◌, ◌<◌, zero-le}
use native.Mathlib.Omega.{arith}
use mathlib.Core.Bool.{Bool, true, false, ◌&&◌}
use mathlib.Core.List.{List}
use mathlib.Core.Option.{some}
use mathlib.Core.Path.{◌≡◌, refl, sym, ap, ◌∙◌}
use borrow.Author.Rules.{rules}
use borrow.Author.Tests.{lt-ltb, le-ltb}
use lib.Dec.{ltb, eqb}
use lib.IntN.{ℤ, pos}
use lib.ListN.{get_or}
use mir.Syntax.{w64}
use mir.Val.{SFits}
use mir.Facts.{to_z-of_z}
use Rattle.states.specs.Sets.{capacity, mem, entry_at}
use Rattle.states.specs.Relations.{RowsGiven}
use Rattle.states.proofs.Search.{bool_ext, and_right, and_both}
use Rattle.states.proofs.EntryLaws.{rows_none, rows_more}
use Rattle.semantics.specs.Language.{int}
use Rattle.semantics.specs.States.{Machine, store_of}
use Rattle.semantics.specs.Conditions.{after_store}
use Rattle.handler.specs.declared.head.Head.{Head}
use Rattle.handler.specs.Header.{machine_in}
use Rattle.evaluation.specs.declared.Values.{Values}
use Rattle.evaluation.specs.declared.Values.TheVariants.{Integers, Truths}
use Rattle.std.specs.Prelude.{Some, None}
use Rattle.std.specs.Prelude as std
use Rattle.evaluation.specs.declared.Variable.{Variable}
use Rattle.handler.specs.Terms.{expr_in}
use Rattle.evaluation.specs.Values.{leads_to, variable_in, is_small}
use Rattle.evaluation.specs.Refinement.{value_in, Evaluated, stored_by}
use Rattle.evaluation.proofs.Sizes.{split}
use Rattle.evaluation.proofs.Laws.{states_most, after_below, small, variable_small, variable_states, store_variable}
use Rattle.evaluation.proofs.successors.Goals as goal

no_integer : (m : Machine) (s v t : ℕ) (row : std.Option Values) → ((integers : List ℤ) → row ≡ Some (Integers integers) → ⊥)
    → false ≡ leads_to (store_of m s v (value_in row s)) t
no_integer m s v t None other = refl
no_integer m s v t (Some (Integers row)) other = absurd (other row refl)
no_integer m s v t (Some (Truths set)) other = refl

module _ (head : Head) (table : List ℕ) (expr : ℕ) (row : std.Option Values) (known : Evaluated head table expr row) (v : ℕ) where
  unfoldable after : ℕ → ℕ → Bool
  after s t = leads_to (after_store (machine_in head) v (expr_in table expr) s) t

  nowhere : ((integers : List ℤ) → row ≡ Some (Integers integers) → ⊥) → (s : ℕ) → s < (machine_in head).states → (t : ℕ) → false ≡ after s t
  unfolding after after_store
  nowhere other s l t = rw (← known.each s l) (no_integer (machine_in head) s v t row other)

  stores : (integers : List ℤ) → row ≡ Some (Integers integers) → (x : Variable) → x ≡ variable_in head v → (s : ℕ) → s < (machine_in head).states
      → (t : ℕ) → (ltb t capacity && eqb (stored_by x s (get_or integers s (pos 0))) t) ≡ after s t
  unfolding after after_store
  stores integers is x same s l t =
      let z = get_or integers s (pos 0) in
      let integer : value_in row s ≡ some (int z) = rw is in
      let here : after_store (machine_in head) v (expr_in table expr) s ≡ some (stored_by x s z)
      = ap (store_of (machine_in head) s v) (sym (known.each s l) ∙ integer) ∙ rw same (ap some (store_variable head v s l z)) in
      rw here
      (bool_ext _ _ (and_right (ltb t capacity) _) (λ h. and_both _ _ (lt-ltb t capacity
      (omega (arith, after_below head v (expr_in table expr) s t l (ap (λ o. leads_to o t) here ∙ h), states_most head))) h))

  -- Rows that hold the states after the stores below N and are empty from N on.
  filled : (rows : List ℕ) → ((s : ℕ) → s < (machine_in head).states → (t : ℕ) → mem (entry_at rows s) t ≡ after s t)
      → ((s : ℕ) → (machine_in head).states ≤ s → (t : ℕ) → mem (entry_at rows s) t ≡ false)
      → (s t : ℕ) → mem (entry_at rows s) t ≡ (ltb s (machine_in head).states && after s t)
  filled rows below past s t =
      split s (machine_in head).states (λ l. rw (lt-ltb s (machine_in head).states l) (below s l t))
      (λ l. rw (le-ltb s (machine_in head).states l) (past s l t))

  unfilled : ((integers : List ℤ) → row ≡ Some (Integers integers) → ⊥) → (rows : List ℕ) → RowsGiven (λ s set. ⊥) 0 rows
      → (s t : ℕ) → mem (entry_at rows s) t ≡ (ltb s (machine_in head).states && after s t)
  unfilled other rows empty = filled rows (λ s l t. empty.rest s zero-le t ∙ nowhere other s l t) (λ s l. empty.rest s zero-le)

-- The variable's numbers are small.
small_variable : (x : Variable) (head : Head) (v : ℕ) → x ≡ variable_in head v → is_small x ≡ true
small_variable x head v is = ap is_small is ∙ variable_small head v

pub returns-in_default : goal.returns-in_default
unfolding after
returns-in_default c =
    let other : (integers : List ℤ) → c.values_at.result ≡ Some (Integers integers) → ⊥ = search rules in
    unfilled _ _ _ _ c.values_at.ensures _ other _ (rows_none _)

pub returns-in_default-2 : goal.returns-in_default-2
unfolding after
returns-in_default-2 c =
    let other : (integers : List ℤ) → c.values_at.result ≡ Some (Integers integers) → ⊥ = search rules in
    unfilled _ _ _ _ c.values_at.ensures _ other _ (rows_none _)

pub variable_row-present-requires : goal.variable_row-present-requires
variable_row-present-requires c = let known = small _ (small_variable _ _ _ c.variable_of-x.ensures) in (known.few, known.weighs, known.sized)

pub loop-s-init : goal.loop-s-init
loop-s-init c = rows_none _

pub bounds-present-s : goal.bounds-present-s
bounds-present-s c = omega (arith, small _ (small_variable _ _ _ c.variable_of-x.ensures))

pub bounds-integers-s : goal.bounds-integers-s
bounds-integers-s c = omega (arith, small _ (small_variable _ _ _ c.variable_of-x.ensures))

pub store-end-requires : goal.store-end-requires
store-end-requires c =
    let s = c.loop-s.s in
    let present : SFits w64 (get_or c.variable_row-present.result s (pos 0)) = search rules in
    let h = small_variable _ _ _ c.variable_of-x.ensures in
    (h, omega (arith, small _ h), to_z-of_z present ∙ c.variable_row-present.ensures s c.loop-s-test.true)

pub loop-s-preserved : goal.loop-s-preserved
loop-s-preserved c =
    let x = c.variable_of-x in
    let integers = c.in-Some-Integers.integers in
    let integer : SFits w64 (get_or integers c.loop-s.s (pos 0)) = search rules in
    rw c.put_entry.ensures
    (rows_more _ c.loop-s.s _ _ (omega (arith, small _ (small_variable _ _ _ x.ensures)))
    (λ t. c.single.ensures t ∙ ap (λ e. ltb t capacity && eqb e t) (c.store-end.ensures ∙ ap (stored_by x.result c.loop-s.s) (to_z-of_z integer)))
    c.loop-s.invariant)

pub returns : goal.returns
unfolding after
returns c =
    let l = c.loop-s in
    let x = c.variable_of-x in
    let known = rw c.in-Some-Integers.field-0-is at c.in-Some-Integers.ensures in
    let all : (machine_in c.args.head).states ≡ l.s = sym (variable_states c.args.head _) ∙ ap (λ y. y.states) (sym x.ensures) ∙ omega arith in
    filled _ _ _ _ known _ l.rows
    (λ s h t. let there = l.invariant.hold s (omega arith) in there.2 t ∙ there.1 t ∙ stores _ _ _ _ known _ _ refl _ x.ensures s h t)
    (λ s h. l.invariant.rest s (omega arith))
