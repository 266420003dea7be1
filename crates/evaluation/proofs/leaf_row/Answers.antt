-- The tag says which leaf it is.
use Prim.Native.Nat.{◌≤◌}
use mathlib.Core.Path.{◌≡◌, ap, ◌∙◌}
use native.Mathlib.Omega.{arith}
use borrow.Author.Rules.{sfits_of}
use lib.ListN.{replicate}
use mir.Syntax.{w64}
use mir.Facts.{to_z-of_z}
use Rattle.states.specs.Sets.{capacity}
use Rattle.handler.specs.Header.{machine_in}
use Rattle.evaluation.specs.Values.{is_small}
use Rattle.evaluation.proofs.Laws.{states_most, small, variable_small, variable_values}
use Rattle.evaluation.proofs.Walking.{integer_row, truth_row, variable_row}
use Rattle.evaluation.proofs.leaf_row.Goals.{Start}
use Rattle.evaluation.proofs.leaf_row.Goals as goal

most : (c : Start) → c.args.n ≤ capacity
most c = rw c.requires.0 (states_most c.args.head)

pub returns-then-term-eq-INTEGER : goal.returns-then-term-eq-INTEGER
returns-then-term-eq-INTEGER c a b =
    let value = c.signed_of in
    integer_row c.args.n (machine_in c.args.head) c.args.term a b _ (most (goal.at.returns-then-term-eq-INTEGER c).Start) c.if-term-eq-INTEGER.true c.requires.2
    (ap (λ z. replicate capacity z) (to_z-of_z {w = w64} {z = value.result} (sfits_of value.type_inv) ∙ value.ensures))

pub returns-then-term-eq-TRUTH : goal.returns-then-term-eq-TRUTH
returns-then-term-eq-TRUTH c a b =
    truth_row c.args.n (machine_in c.args.head) c.args.term a b c.always.result (most (goal.at.returns-then-term-eq-TRUTH c).Start)
    c.if-term-eq-TRUTH.true c.always.ensures

pub variable_row-requires : goal.variable_row-requires
variable_row-requires c = let known = small _ (ap is_small c.variable_of-x.ensures ∙ variable_small _ _) in
    (most (goal.at.variable_row-requires c).Start, known.weighs, known.sized)

pub returns : goal.returns
returns c a b =
    let is : c.args.term.tag ≡ 2 = omega (arith, c.requires, c.if-term-eq-TRUTH.false, c.if-term-eq-INTEGER.false) in
    variable_row c.args.n (machine_in c.args.head) c.args.term a b c.variable_row.result is
    (variable_values _ _ _ _ c.variable_row.result c.variable_of-x.ensures c.requires.0 c.variable_row.ensures)
