-- Both ways read the same bits.
use Rattle.bits.proofs.word.Goals as goal

pub returns-then-at-src : goal.returns-then-at-src
returns-then-at-src c = c.nine_bytes.ensures

pub returns : goal.returns
returns c = c.gather.ensures
