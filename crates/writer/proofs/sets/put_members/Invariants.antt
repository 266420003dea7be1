-- After each round the bits of so many words are written; `word_more` adds those of one.
use mathlib.Core.Path.{◌≡◌}
use Rattle.states.specs.Sets.{has}
use Rattle.writer.proofs.SetBits.{put_words}
use Rattle.writer.proofs.sets.put_members.Given as goal

abbrev pub invariant-loop-part : goal.invariant-loop-part
invariant-loop-part l = l.out ≡ put_words l.initial.out l.at l.n (has l.set) l.part
