-- No shift loses a bit, so the code computes the byte of `with_bits`.
use native.Mathlib.Omega.{arith}
use borrow.Author.Rules.{rules}
use Rattle.writer.proofs.Bytes.{front_fits, byte_below, byte_coded}
use Rattle.writer.proofs.with_bits.Goals as goal

pub returns : goal.returns
returns c =
    let a = c.args in
    byte_coded a.byte a.k a.after a.value (search rules) (search rules)

pub overflow_add-result : goal.overflow_add-result
overflow_add-result c =
    let a = c.args in
    omega (arith, front_fits a.byte a.k a.after a.value (search rules) (search rules))

pub overflow_add-result-2 : goal.overflow_add-result-2
overflow_add-result-2 c =
    let a = c.args in
    omega (arith, returns c, byte_below a.byte a.k a.after a.value (search rules) (search rules))
