-- The bits are there if the bytes that hold them are: the whole bytes of `at` and of `count`, and at most two for the remainders.
use Prim.Native.Nat.{◌+◌, ◌*◌}
use native.Mathlib.Omega.{arith}
use borrow.Author.Tests.{le-leb, leb-true, leb-false}
use lib.ListN.{length}
use Rattle.bits.specs.Fields.{has_bits}
use Rattle.bits.proofs.Laws.{same_test}
use Rattle.bits.proofs.has_bits.Goals as goal

pub returns : goal.returns
unfolding has_bits
returns c =
    let a = c.args in
    same_test _ _ (λ h. le-leb (a.at + a.count) (8 * length a.src.now) (omega (arith, leb-true))) (λ h e. omega (arith, leb-true, leb-false))
