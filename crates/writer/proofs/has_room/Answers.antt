-- An end that a usize cannot hold fails the second test; any other passes it, and the first one decides.
use Prim.Native.Nat.{◌+◌, ◌^◌}
use mathlib.Core.Bool.{and-true, and-false}
use mathlib.Core.Path.{◌∙◌}
use native.Mathlib.Omega.{arith}
use borrow.Author.Tests.{lt-ltb, le-ltb}
use Rattle.bits.specs.Fields.{has_bits}
use Rattle.writer.specs.Writing.{has_room}
use Rattle.writer.proofs.has_room.Goals as goal

pub returns-then-width-at : goal.returns-then-width-at
unfolding has_room
returns-then-width-at c =
    let a = c.args in
    rw (le-ltb (a.at + a.width) (2 ^ 64) (omega arith), and-false)

pub returns : goal.returns
unfolding has_room has_bits
returns c =
    let a = c.args in
    c.has_bits.ensures ∙ rw (lt-ltb (a.at + a.width) (2 ^ 64) (omega arith), and-true)
