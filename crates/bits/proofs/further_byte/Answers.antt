-- Either there is a further byte whose first bit a cursor can number, or the file ends.
use Prim.Native.Nat.{◌+◌, ◌*◌, ◌^◌}
use mathlib.Core.Bool.{and-false}
use native.Mathlib.Omega.{arith}
use borrow.Author.Tests.{lt-ltb, le-ltb}
use lib.ListN.{length}
use Rattle.bits.specs.Fields.{further_byte}
use Rattle.bits.proofs.further_byte.Goals as goal

pub returns-in_default : goal.returns-in_default
unfolding further_byte
returns-in_default c =
    let a = c.args in
    let over = c.in_default.ensures in
    simp (le-ltb (a.at + a.skip) (2 ^ 64) (omega (arith, over)), and-false)

pub returns-then-next-src : goal.returns-then-next-src
unfolding further_byte
returns-then-next-src c =
    let next = c.in-Some.ensures in
    let s = c.args.src.now in
    rw (next.1)
    (simp (lt-ltb (c.args.at + c.args.skip) (8 * length s) (omega (arith, next)), lt-ltb (c.args.at + c.args.skip) (2 ^ 64) (omega (arith, next))))

pub returns-else-next-src : goal.returns-else-next-src
unfolding further_byte
returns-else-next-src c =
    let next = c.in-Some.ensures in
    let a = c.args in
    simp (le-ltb (a.at + a.skip) (8 * length a.src.now) (omega (arith, next)))
