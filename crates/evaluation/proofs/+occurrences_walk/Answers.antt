-- The node says what is there. An operation has the occurrences of both its operands.
use Prim.Native.Nat.{ℕ, ◌≤◌}
use native.Mathlib.Nat.{pos_of_ne-zero}
use native.Mathlib.Omega.{arith}
use mathlib.Core.Path.{◌≡◌}
use mathlib.Core.List.{List}
use Rattle.handler.specs.declared.terms.Term.{Term}
use Rattle.handler.specs.Terms.{term_in}
use Rattle.evaluation.proofs.Walking.{operation_inside, no_level, constant_occurs, variable_occurs, sum_small, both_occur}
use Rattle.evaluation.proofs.+occurrences_walk.Goals as goal

-- The node is an operation.
last : (table : List ℕ) (i : ℕ) (x : Term) → x ≡ term_in table i → 2 ≤ x.tag → (x.tag ≡ 2 → ⊥) → 3 ≤ (term_in table i).tag
last table i x is most other = let tag : 3 ≤ x.tag = omega arith in rw is at tag

pub returns-then-levels-eq0 : goal.returns-then-levels-eq0
returns-then-levels-eq0 t c = no_level _ _ _ _ c.if-levels-eq0.true

pub returns-then-term-lt-VARIABLE : goal.returns-then-term-lt-VARIABLE
returns-then-term-lt-VARIABLE t c =
    constant_occurs _ _ _ _ (pos_of_ne-zero c.if-levels-eq0.false) (rw c.term_at-term.ensures at c.if-term-lt-VARIABLE.true)

pub returns-then-term-eq-VARIABLE : goal.returns-then-term-eq-VARIABLE
returns-then-term-eq-VARIABLE t c =
    variable_occurs _ _ _ _ (pos_of_ne-zero c.if-levels-eq0.false) _ (rw c.term_at-term.ensures at c.if-term-eq-VARIABLE.true)
    (rw c.term_at-term.ensures at c.occurs_in.ensures)

pub overflow_add-i : goal.overflow_add-i
overflow_add-i t c =
    omega (arith, operation_inside _ _ (last _ _ _ c.term_at-term.ensures c.if-term-lt-VARIABLE.false c.if-term-eq-VARIABLE.false))

pub overflow_add-result : goal.overflow_add-result
overflow_add-result t c =
    omega (
      arith,
      sum_small _ c.requires (pos_of_ne-zero c.if-levels-eq0.false) _ _ c.occurrences_walk-left.ensures.1 c.occurrences_walk-right.ensures.1,
    )

pub returns : goal.returns
returns t c =
    both_occur _ _ _ _ (pos_of_ne-zero c.if-levels-eq0.false)
    (last _ _ _ c.term_at-term.ensures c.if-term-lt-VARIABLE.false c.if-term-eq-VARIABLE.false) _ _ c.occurrences_walk-left.ensures
    (rw c.term_at-term.ensures at c.occurrences_walk-right.ensures)
