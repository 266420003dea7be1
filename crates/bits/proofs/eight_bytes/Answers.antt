-- The four pairs of bytes are adjacent, and their value fits in 64 bits.
use Prim.Native.Nat.{◌+◌, ◌*◌, ◌^◌, ◌<◌}
use native.Mathlib.Omega.{arith}
use Rattle.bits.proofs.Laws.{bits_below}
use Rattle.bits.proofs.Bytes.{bytes_join}
use Rattle.bits.proofs.eight_bytes.Goals as goal

-- Each pair is below 2 ^ 16.
room : (c : goal.After-two_bytes-fourth) → let third = c.before in let second = third.before in let first = second.before in
    (first.two_bytes-first.result < 2 ^ 16) × (second.two_bytes-second.result < 2 ^ 16) × (third.two_bytes-third.result < 2 ^ 16) × (c.two_bytes-fourth.result < 2 ^ 16)
room c =
    let a = c.args in (
      omega (arith, bits_below a.src.now (8 * a.i) 16),
      omega (arith, bits_below a.src.now (8 * (a.i + 2)) 16),
      omega (arith, bits_below a.src.now (8 * (a.i + 4)) 16),
      omega (arith, bits_below a.src.now (8 * (a.i + 6)) 16),
    )

pub returns : goal.returns
returns c =
    let a = c.args in
    omega (arith, bytes_join a.src.now a.i 2 16, bytes_join a.src.now a.i 4 16, bytes_join a.src.now a.i 6 16)

pub overflow_mul-result : goal.overflow_mul-result
overflow_mul-result c = omega (arith, room c)

pub overflow_add-result : goal.overflow_add-result
overflow_add-result c = omega (arith, room c)

pub overflow_mul-result-2 : goal.overflow_mul-result-2
overflow_mul-result-2 c = omega (arith, room c)

pub overflow_add-result-2 : goal.overflow_add-result-2
overflow_add-result-2 c = omega (arith, room c)

pub overflow_mul-result-3 : goal.overflow_mul-result-3
overflow_mul-result-3 c = omega (arith, room c)

pub overflow_add-result-3 : goal.overflow_add-result-3
overflow_add-result-3 c = omega (arith, room c)
