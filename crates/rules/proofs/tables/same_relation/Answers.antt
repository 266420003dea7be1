-- A table is the same as itself; for two tables the rows are compared.
use mathlib.Core.Path.{◌∙◌, sym, refl}
use borrow.Author.Tests.{eq-eqb}
use Rattle.semantics.specs.Conditions.{same_relation, same_set}
use Rattle.rules.specs.Words.{word_relation}
use Rattle.rules.proofs.Searches.{same_as_itself}
use Rattle.rules.proofs.tables.same_relation.Goals as goal

pub returns-then-a-b : goal.returns-then-a-b
returns-then-a-b c = rw c.if-a-b.true (eq-eqb c.args.b _ refl ∙ sym (same_as_itself _ _))

pub returns-else-a-b : goal.returns-else-a-b
unfolding word_relation same_relation same_set
returns-else-a-b c = rw (c.rows_of.ensures, c.rows_of-else-a-b.ensures) at c.same_members.ensures
