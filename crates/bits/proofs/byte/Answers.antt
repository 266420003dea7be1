-- A byte of the file is the value of its 8 bits; past the end these bits are 0.
use mathlib.Core.Path.{sym, ◌∙◌}
use native.Mathlib.Omega.{arith}
use lib.ListN.{get_or-eq_default}
use Rattle.bits.proofs.Bytes.{byte_bits}
use Rattle.bits.proofs.byte.Goals as goal

pub returns-then-i-src : goal.returns-then-i-src
returns-then-i-src c =
    let a = c.args in
    sym (byte_bits a.src.now a.i (omega (arith, c.type_inv.src a.i)))

pub returns-else-i-src : goal.returns-else-i-src
returns-else-i-src c =
    let a = c.args in
    let past = get_or-eq_default a.src.now 0 {n = a.i} (omega arith) in
    sym (byte_bits a.src.now a.i (omega arith) ∙ past)
