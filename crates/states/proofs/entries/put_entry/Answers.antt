-- The one word of the set is stored; past the end a store changes nothing.
use native.Mathlib.Nat.{one-mul}
use native.Mathlib.Omega.{arith}
use mathlib.Core.Path.{sym, ap}
use lib.ListN.{set}
use lib.Seq.{set_out}
use Rattle.states.specs.Sets.{with_entry}
use Rattle.states.proofs.entries.put_entry.Goals as goal

pub returns-then-i-words : goal.returns-then-i-words
unfolding with_entry
returns-then-i-words c = let a = c.args in ap (λ k. set a.words.now k a.set.bits) (sym (one-mul a.i))

pub returns-else-i-words : goal.returns-else-i-words
unfolding with_entry
returns-else-i-words c = let a = c.args in sym (set_out a.words.now _ a.set.bits (omega arith))
