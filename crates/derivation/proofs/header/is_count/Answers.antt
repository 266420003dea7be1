-- The tests of the range are those of the definition.
use mathlib.Core.Path.{◌∙◌}
use Rattle.std.proofs.lemmas.Grind.{common_steps}
use native.Mathlib.Omega.{arith}
use Rattle.derivation.specs.Tables.{is_count}
use Rattle.derivation.proofs.header.is_count.Goals as goal

pub returns : goal.returns
unfolding is_count
returns c = c.contains.ensures.value ∙ rw (c.new.ensures.start, c.new.ensures.end, c.new.ensures.exhausted) (grind (arith, common_steps))
