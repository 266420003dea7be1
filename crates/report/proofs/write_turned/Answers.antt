-- The line is built in 80 bytes, which hold every line; its text is the place, and then that of the verdict.
use Rattle.report.specs.Line.{turned_line}
use Rattle.report.proofs.Writing.{put_then}
use Rattle.report.proofs.write_turned.Goals as goal

pub returns : goal.returns
unfolding turned_line
returns c =
    rw (put_then c.put_guest-guest.ensures.put c.put_words-end.ensures.put).front at c.put_line.ensures
