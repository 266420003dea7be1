-- The byte of the cursor is read, changed and stored, which is writing all these bits.
use Prim.Native.Nat.{◌-◌, ◌/◌, ◌%◌, ◌<◌}
use mathlib.Core.Path.{sym}
use native.Mathlib.Omega.{arith}
use lib.ListN.{get_or}
use Rattle.writer.proofs.Bytes.{byte_below, byte_put}
use Rattle.writer.proofs.store.Goals as goal

pub with_bits-byte-requires : goal.with_bits-byte-requires
with_bits-byte-requires c = (omega (arith, c.type_inv.out (c.args.at / 8)), omega arith)

pub overflow_cast-out-2 : goal.overflow_cast-out-2
overflow_cast-out-2 c =
    let a = c.args in
    let byte = get_or a.out.now (a.at / 8) 0 in
    let small : byte < 256 = omega arith in
    omega (arith, c.with_bits-byte.ensures, byte_below byte a.k (8 - a.at % 8 - a.k) a.value small (omega arith))

pub returns : goal.returns
returns c =
    let a = c.args in
    rw c.with_bits-byte.ensures (sym (byte_put a.out.now a.at a.k a.value (omega arith) (omega arith)))
