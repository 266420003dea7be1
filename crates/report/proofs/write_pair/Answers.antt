-- The line is built in 80 bytes, which hold every line; its text is that of the verdict, and then that of the pair.
use Rattle.report.specs.Line.{pair_line}
use Rattle.report.proofs.Writing.{put_then}
use Rattle.report.proofs.write_pair.Goals as goal

pub returns : goal.returns
unfolding pair_line
returns c =
    rw (put_then c.put_words-words.ensures.put c.put_pair-end.ensures.put).front at c.put_line.ensures
