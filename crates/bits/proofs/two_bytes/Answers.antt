-- Each byte is the value of its 8 bits, and the two bytes are adjacent.
use Prim.Native.Nat.{◌+◌}
use native.Mathlib.Omega.{arith}
use Rattle.bits.proofs.Bytes.{byte_bits, bytes_join}
use Rattle.bits.proofs.two_bytes.Goals as goal

pub returns : goal.returns
returns c =
    let a = c.args in
    let known = c.type_inv.src in
    omega (
      arith,
      bytes_join a.src.now a.i 1 8,
      byte_bits a.src.now a.i (omega (arith, known a.i)),
      byte_bits a.src.now (a.i + 1) (omega (arith, known (a.i + 1))),
    )

pub bounds-src-i : goal.bounds-src-i
bounds-src-i c = omega (arith, c.type_inv.src c.args.i)

pub overflow_mul-result : goal.overflow_mul-result
overflow_mul-result c = omega (arith, c.type_inv.src c.args.i)

pub bounds-src-i-2 : goal.bounds-src-i-2
bounds-src-i-2 c = omega (arith, c.type_inv.src (c.args.i + 1))

pub overflow_add-result-2 : goal.overflow_add-result-2
overflow_add-result-2 c =
    let a = c.args in
    omega (arith, c.type_inv.src a.i, c.type_inv.src (a.i + 1))
