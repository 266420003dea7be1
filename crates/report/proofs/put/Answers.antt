-- The text is copied to its part of the buffer.
use Rattle.report.proofs.Writing.{copied}
use Rattle.report.proofs.put.Goals as goal

pub returns : goal.returns
returns c = rw c.copy_from_slice.ensures.after (copied _ _ _ c.requires)
