-- The 8 bits lie within the two bytes that are read.
use Prim.Native.Nat.{◌+◌, ◌*◌, ◌^◌, ◌<◌}
use native.Mathlib.Omega.{arith}
use Rattle.bits.proofs.Laws.{bits_below}
use Rattle.bits.proofs.Bytes.{window}
use Rattle.bits.proofs.byte_from.Goals as goal

-- Two bytes fit in 16 bits.
room : (c : goal.After-byte-second) → c.byte-first.result * 256 + c.byte-second.result < 2 ^ 16
room c =
    let a = c.args in
    omega (arith, bits_below a.src.now (8 * a.i) 8, bits_below a.src.now (8 * (a.i + 1)) 8)

pub returns : goal.returns
returns c =
    let a = c.args in
    rw (c.byte-first.ensures, c.byte-second.ensures) (window a.src.now a.i a.skip (omega arith))

pub overflow_mul-result : goal.overflow_mul-result
overflow_mul-result c = omega (arith, room c)

pub overflow_add-result : goal.overflow_add-result
overflow_add-result c = omega (arith, room c)
