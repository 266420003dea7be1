-- A field that is there in full passes every test; its last bit is in a byte of the file iff it lies within the file.
use mathlib.Core.Bool.{not-eq-not, false}
use mathlib.Core.Path.{sym}
use native.Mathlib.Omega.{arith}
use borrow.Author.Tests.{ltb-true, ltb-false}
use Rattle.bits.proofs.Laws.{same_test, is_there_lem, in_full}
use Rattle.bits.proofs.is_there.Goals.{then-width-lt1-via-then-width-lt1, then-width-lt1-via-else-width-lt1+then-width-gt64, then-width-lt1-via-else-width-lt1+else-width-gt64+then-width-at}
use Rattle.bits.proofs.is_there.Goals as goal

pub returns-then-width-lt1 : goal.returns-then-width-lt1
returns-then-width-lt1 c =
    let a = c.args in
    sym
    ((not-eq-not {b = false}).0 (λ e.
    let t = in_full a.src.now a.at a.width e in
    elim c.then-width-lt1.branch [
      | then-width-lt1-via-then-width-lt1 w ↦ omega arith
      | then-width-lt1-via-else-width-lt1+then-width-gt64 w ↦ omega arith
      | then-width-lt1-via-else-width-lt1+else-width-gt64+then-width-at w ↦ omega arith
    ]))

pub overflow_add-result : goal.overflow_add-result
overflow_add-result c = omega (arith, ltb-false)

pub returns : goal.returns
returns c =
    let a = c.args in
    same_test _ _
    (λ h.
    is_there_lem a.src.now a.at a.width (omega arith) (omega (arith, ltb-false)) (omega (arith, ltb-true)) (omega (arith, ltb-false)))
    (λ h e. omega (arith, ltb-false, (in_full a.src.now a.at a.width e).inside))
