-- Bit s of the word, if s is one of the 64 states.
use mathlib.Core.Path.{◌∙◌, sym}
use borrow.Author.Tests.{lt-ltb, le-ltb}
use Rattle.states.specs.Sets.{has}
use Rattle.states.proofs.Words.{mem_bit}
use Rattle.states.proofs.StateSet.holds_state.Goals as goal

pub returns-then-s-lt-CAPACITY : goal.returns-then-s-lt-CAPACITY
unfolding has
returns-then-s-lt-CAPACITY c = sym (mem_bit _ _ ∙ rw (lt-ltb _ 64 c.if-s-lt-CAPACITY.true))

pub returns-else-s-lt-CAPACITY : goal.returns-else-s-lt-CAPACITY
unfolding has
returns-else-s-lt-CAPACITY c = sym (mem_bit _ _ ∙ rw (le-ltb _ 64 c.if-s-lt-CAPACITY.false))
