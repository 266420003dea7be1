-- Tables that are there are over few states.
use mathlib.Core.Bool.{and-eq-true_iff}
use mathlib.Core.Path.{sym, ◌∙◌}
use native.Mathlib.Omega.{arith}
use borrow.Author.Tests.{leb-true}
use Rattle.derivation.specs.Tables.{tables_there}
use Rattle.derivation.proofs.Counts.{count_range}
use Rattle.derivation.proofs.header.read_relations.Goals as goal

pub row_cursor-root-requires : goal.row_cursor-root-requires
unfolding tables_there
row_cursor-root-requires c =
    let tests = simp and-eq-true_iff at (sym c.are_there.ensures ∙ c.if-not-are_there.false) in
    omega (arith, leb-true, count_range _ (sym c.is_count.ensures ∙ c.if-not-is_count.false))
