-- The answer as one number: nothing is cut off, so that it determines the answer but for the states, it is 0 exactly if the call was done,
-- and then the record can be read from the numbers.
use Prim.Native.Nat.{ℕ, ◌+◌, ◌≤◌}
use mathlib.Core.Bool.{true}
use mathlib.Core.List.{List}
use mathlib.Core.Path.{◌≡◌, refl, sym, subst, ◌∙◌}
use native.Mathlib.Omega.{arith}
use borrow.Author.Tests.{ne_eqb}
use lib.Dec.{eqb}
use Rattle.pair.specs.Modes.{rows}
use Rattle.checker.specs.declared.Fault.{Fault}
use Rattle.checker.specs.Verdicts as Verdicts
use Rattle.checker.proofs.Bounds.{bounded}
use Rattle.report.specs.Code.{index_of, code_of, Lossless}
use Rattle.report.proofs.Decoding.{lossless}
use Rattle.frame.specs.declared.Frame.{Frame}
use Rattle.frame.specs.declared.Refusal.TheVariants.{Check}
use Rattle.frame.specs.declared.Outcome.{Outcome}
use Rattle.std.specs.Prelude.{Ok, Err, is_ok}
use Rattle.frame.specs.Calls.{Answer, at_bit0, as_verdict, admit, released}
use Rattle.frame.specs.Served.{ServedIf}
use Rattle.frame.proofs.Outcomes.{admitted_cases, released_cases}

-- No bit of the answer is cut off, and its number is 0 exactly if the call was done.
abbrev pub Coded : Answer → Type 0
Coded a = Lossless (as_verdict a) × (eqb (code_of (as_verdict a)) 0 ≡ is_ok a)

refused : (f : Fault) → Lossless (Err f) → Coded (Err (Check f))
unfolding code_of
refused f small = (small, ne_eqb (code_of (Err f)) 0 (λ e. omega arith))

-- The refusals that are not the check's.
plain : (k : ℕ) → k ≤ 4 → Coded (Err (Check (at_bit0 (100 + k))))
unfolding index_of
plain k few = refused _ (omega arith, omega arith, omega arith)

done : Coded (Ok tt)
unfolding code_of
done = (omega arith, refl)

pub released_coded : (f : Frame) (place : ℕ) → Coded (released f place).answer
released_coded f place =
    released_cases (λ o. Coded o.answer) f place (plain 0 (omega arith)) (plain 2 (omega arith)) (plain 1 (omega arith)) (λ well. done)

pub admit_coded : (f : Frame) (place : ℕ) (hb pb : List ℕ) (ticks words : ℕ) → Coded (admit f place hb pb ticks words).answer
unfolding admit
admit_coded f place hb pb ticks words =
    let v = (Verdicts.answer hb pb rows words).verdict in
    admitted_cases (λ o. Coded o.answer) f place (plain 0 (omega arith)) (plain 2 (omega arith)) ticks (plain 1 (omega arith)) (plain 4 (omega arith)) v
    (λ fault e. refused fault (subst Lossless e (lossless v (bounded hb pb rows words)))) (λ k e over. plain 3 (omega arith)) (λ k e fits there free well. done)

-- If the number is 0, the record that is read from the numbers is the call's.
pub served_read : (o : Outcome) (hb pb : List ℕ) (ticks : ℕ) (f : Frame) → (is_ok o.answer ≡ true → f ≡ o.frame) → Coded o.answer
    → ServedIf (is_ok o.answer) hb pb ticks o.frame → ServedIf (eqb (code_of (as_verdict o.answer)) 0) hb pb ticks f
served_read o hb pb ticks f read coded so =
    record { served = λ zero. let done = sym coded.1 ∙ zero in rw (read done) (so.served done) }
