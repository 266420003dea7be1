-- A field that is there has at most 64 bits, as `gather` requires, and a cursor after it.
use Prim.Native.Nat.{◌+◌}
use mathlib.Core.Path.{sym}
use native.Mathlib.Omega.{arith}
use Rattle.bits.specs.Fields.{bits_at, field_at}
use Rattle.bits.proofs.Laws.{There, in_full, found}
use Rattle.bits.proofs.read.Goals.{Then-is_there}
use Rattle.bits.proofs.read.Goals as goal

-- What the test implies.
full : (c : Then-is_there) →
    let a = c.args in
    There a.src.now a.at a.width (bits_at a.src.now a.at a.width) (a.at + a.width)
full c = in_full _ _ _ (cc)

pub returns-then-is_there : goal.returns-then-is_there
returns-then-is_there c =
    let a = c.args in
    let t = full (goal.at.returns-then-is_there c).Then-is_there in
    rw c.gather-value.ensures
    (sym (found a.src.now a.at a.width t.least t.most t.inside t.fits))

pub returns : goal.returns
unfolding field_at
returns c = rw (← c.is_there.ensures, c.if-is_there.false)

pub gather-value-requires : goal.gather-value-requires
gather-value-requires c = (full c).most

pub overflow_add-result : goal.overflow_add-result
overflow_add-result c = omega (arith, (full (goal.at.overflow_add-result c).Then-is_there).fits)
