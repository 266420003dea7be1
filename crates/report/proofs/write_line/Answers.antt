-- The line is built in 80 bytes, which hold every line; its text is that of the verdict.
use Rattle.report.specs.Line.{line_of}
use Rattle.report.proofs.write_line.Goals as goal

pub returns : goal.returns
unfolding line_of
returns c =
    rw c.put_words-end.ensures.put.front at c.put_line.ensures
