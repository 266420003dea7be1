-- Bits that fit are copied by `copy_bits`; any others leave the bytes as they are.
use Prim.Native.Nat.{◌+◌, ◌*◌, ◌^◌, ◌≤◌, ◌<◌}
use mathlib.Core.Bool.{and-false}
use mathlib.Core.Path.{sym, ◌∙◌}
use native.Mathlib.Omega.{arith}
use borrow.Author.Tests.{le-ltb}
use lib.ListN.{length}
use Rattle.writer.specs.Writing.{copied}
use Rattle.writer.proofs.Laws.{in_room}
use Rattle.writer.proofs.Copied.{copied_fits}
use Rattle.writer.proofs.copy.Goals.{Then-has_room, else-width-from-via-then-width-from+else-has_room, else-width-from-via-else-width-from}
use Rattle.writer.proofs.copy.Goals as goal

-- What the tests imply.
fits : (c : Then-has_room) → let a = c.args in
    (a.from + a.width < 2 ^ 64) × (a.to + a.width ≤ 8 * length a.out.now) × (a.to + a.width < 2 ^ 64)
fits c =
    let a = c.args in
    let room = in_room a.out.now a.to a.width (sym c.has_room.ensures ∙ c.if-has_room.true) in
    (omega arith, room.0, room.1)

pub copy_bits-requires : goal.copy_bits-requires
copy_bits-requires c = fits (goal.at.copy_bits-requires c).Then-has_room

pub returns-then-has_room : goal.returns-then-has_room
returns-then-has_room c =
    let a = c.args in
    let f = fits (goal.at.returns-then-has_room c).Then-has_room in
    rw (copied_fits a.out.now a.to a.src.now a.from a.width f.1 f.2 f.0) c.copy_bits.ensures

pub returns-else-width-from : goal.returns-else-width-from
unfolding copied
returns-else-width-from c =
    let a = c.args in
    elim c.else-width-from.branch [
      | else-width-from-via-then-width-from+else-has_room w ↦ rw (sym w.has_room.ensures ∙ w.if-has_room.false)
      | else-width-from-via-else-width-from w ↦ rw (le-ltb (a.from + a.width) (2 ^ 64) (omega (arith, w.if-width-from.false)), and-false)
    ]
