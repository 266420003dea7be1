-- Each test is one of the definition's; the tables are there where all bits before the root are.
use mathlib.Core.Bool.{◌&&◌, and-eq-true_iff}
use mathlib.Core.Path.{◌≡◌, sym, ◌∙◌}
use native.Mathlib.Nat.{zero-add}
use native.Mathlib.Omega.{arith}
use borrow.Author.Tests.{leb-true}
use lib.Dec.{leb}
use Rattle.std.proofs.lemmas.Grind.{common_steps}
use Rattle.bits.specs.Fields.{has_bits}
use Rattle.states.specs.Sets.{capacity}
use Rattle.derivation.specs.Tables.{tables_there}
use Rattle.derivation.proofs.header.are_there.Goals.{After-contains}
use Rattle.derivation.proofs.header.are_there.Goals as goal

tested : (c : After-contains) → c.contains.result ≡ (leb 1 c.args.n && leb c.args.n capacity)
tested c = c.contains.ensures.value ∙ rw (c.new.ensures.start, c.new.ensures.end, c.new.ensures.exhausted) (grind (arith, common_steps))

pub returns-then-not-contains : goal.returns-then-not-contains
unfolding tables_there
returns-then-not-contains c = rw (← tested (goal.at.returns-then-not-contains c).After-contains, c.if-not-contains.true)

pub row_cursor-end-requires : goal.row_cursor-end-requires
row_cursor-end-requires c =
    let tests = simp and-eq-true_iff at (sym (tested (goal.at.row_cursor-end-requires c).After-contains) ∙ c.if-not-contains.false) in
    omega (arith, leb-true)

pub returns : goal.returns
unfolding tables_there has_bits
returns c = rw (← tested (goal.at.returns c).After-contains, c.if-not-contains.false, ← c.row_cursor-end.ensures) (simp zero-add at c.has_bits.ensures)
