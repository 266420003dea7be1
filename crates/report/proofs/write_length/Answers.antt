-- The definition's line is that of its word and the length.
use Rattle.report.specs.Line.{written_line}
use Rattle.report.proofs.write_length.Goals as goal

pub returns : goal.returns
unfolding written_line
returns c = c.write_named.ensures
