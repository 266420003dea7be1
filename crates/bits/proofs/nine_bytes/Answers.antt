-- The bits before the cursor are shifted out, and those of the ninth byte are shifted in.
use Prim.Native.Nat.{◌+◌, ◌/◌}
use native.Mathlib.Omega.{arith}
use Rattle.bits.proofs.Laws.{bits_fit}
use Rattle.bits.proofs.Bytes.{byte_bits, wide_window}
use Rattle.bits.proofs.nine_bytes.Goals as goal

pub returns : goal.returns
returns c =
    let a = c.args in
    let last = a.at / 8 + 8 in
    rw (← c.eight_bytes.ensures, byte_bits a.src.now last (omega (arith, c.type_inv.src last)))
    at (wide_window a.src.now a.at)

pub overflow_add-result-2 : goal.overflow_add-result-2
overflow_add-result-2 c =
    let a = c.args in
    omega (arith, returns c, bits_fit a.src.now a.at 64 (omega arith))

pub bounds-src-i : goal.bounds-src-i
bounds-src-i c = omega (arith, c.type_inv.src (c.args.at / 8 + 8))
