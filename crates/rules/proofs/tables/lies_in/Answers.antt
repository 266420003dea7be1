-- A table lies in itself. Two tables are compared row by row.
use Rattle.std.proofs.Common.{rules}
use mathlib.Core.Path.{◌∙◌, sym, refl}
use borrow.Author.Tests.{eq-eqb}
use Rattle.states.proofs.Ranges.{all_of_range}
use Rattle.semantics.specs.Conditions.{relation_lies_in}
use Rattle.rules.proofs.Searches.{lies_in_itself}
use Rattle.rules.proofs.tables.lies_in.Goals as goal

pub returns-then-a-b : goal.returns-then-a-b
unfolding relation_lies_in
returns-then-a-b c = rw c.if-a-b.true (eq-eqb c.args.b _ refl ∙ sym (lies_in_itself _ _))

pub returns-else-a-b : goal.returns-else-a-b
unfolding relation_lies_in
returns-else-a-b c = all_of_range _ _ _ _ c.all.ensures.ran (λ x b q k. search rules)
