-- The line is built in 80 bytes, which hold every line; its text is the place, and then the slot's first tick and its length.
use Rattle.report.specs.Line.{slot_line}
use Rattle.report.proofs.Writing.{put_then}
use Rattle.report.proofs.write_slot.Goals as goal

pub returns : goal.returns
unfolding slot_line
returns c =
    let guest = c.put_guest-guest.ensures.put in
    rw (put_then (put_then guest c.put_named-start.ensures.put) c.put_named-end.ensures.put).front at c.put_line.ensures
