-- The line is built in 80 bytes, which hold it; its text is the word and the number.
use Rattle.report.proofs.write_named.Goals as goal

pub returns : goal.returns
returns c =
    rw c.put_named-end.ensures.put.front at c.put_line.ensures
