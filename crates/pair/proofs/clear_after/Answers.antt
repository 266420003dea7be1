-- By cases of the fault.
use mathlib.Core.Path.{sym, ◌∙◌, ap}
use Rattle.std.specs.Prelude.{Err}
use Rattle.pair.specs.Modes.{work_read}
use Rattle.pair.proofs.Found.{found_long, found_fault}
use Rattle.pair.proofs.clear_after.Goals as goal

pub returns-in-At : goal.returns-in-At
unfolding work_read
returns-in-At c pb mode read is = rw (found_fault _ _ (is ∙ ap Err c.in-At.is)) c.clear.ensures

pub returns-in-TooLong : goal.returns-in-TooLong
unfolding work_read
returns-in-TooLong c pb mode read is = rw (found_long _ (is ∙ ap Err c.in-TooLong.is))
