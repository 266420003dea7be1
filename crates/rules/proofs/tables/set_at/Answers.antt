-- Entry i, masked to the states below n.
use mathlib.Core.Path.{◌∙◌, ap₂}
use mathlib.Core.Bool.{◌&&◌}
use Rattle.states.specs.Sets.{mem, entry_at}
use Rattle.states.proofs.EntryLaws.{entry_below}
use Rattle.rules.specs.Words.{word_set}
use Rattle.rules.proofs.Words.{masked}
use Rattle.rules.proofs.tables.set_at.Goals as goal

pub returns : goal.returns
unfolding word_set
returns c s = let a = c.args in
    c.meet.ensures s ∙ ap₂ ◌&&◌ (c.entry_at.ensures s) (c.below.ensures s)
    ∙ masked (mem (entry_at a.work.now a.i)) a.n s (entry_below a.work.now a.i s)
