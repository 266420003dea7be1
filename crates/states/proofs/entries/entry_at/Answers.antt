-- An entry is a word of the slice; past the end it has no member.
use native.Mathlib.Omega.{arith}
use mathlib.Core.Path.{◌∙◌, sym}
use Rattle.states.specs.Sets.{has}
use Rattle.states.proofs.EntryLaws.{entry_word_lem, entry_past}
use Rattle.states.proofs.entries.entry_at.Goals as goal

pub returns-then-i-words : goal.returns-then-i-words
unfolding has
returns-then-i-words c s = let a = c.args in sym (entry_word_lem a.words.now a.i s)

pub returns-else-i-words : goal.returns-else-i-words
unfolding has
returns-else-i-words c s = let a = c.args in c.empty.ensures s ∙ sym (entry_past a.words.now a.i s (omega arith))
