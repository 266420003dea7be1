-- The definition's line is that of its word and the step number.
use Rattle.report.specs.Line.{composed_line}
use Rattle.report.proofs.write_composed.Goals as goal

pub returns : goal.returns
unfolding composed_line
returns c = c.write_named.ensures
