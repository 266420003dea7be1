-- The definition's line is that of its word and the ticks.
use Rattle.report.specs.Line.{left_line}
use Rattle.report.proofs.write_left.Goals as goal

pub returns : goal.returns
unfolding left_line
returns c = c.write_named.ensures
