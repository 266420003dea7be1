-- The last stages of the check: the verdict and the work words after the loop.
use Rattle.std.specs.Prelude.{Err}
use Prim.Native.Nat.{ℕ, ◌-◌, ◌^◌, min}
use mathlib.Core.Path.{◌≡◌, refl}
use mathlib.Core.Bool.{Bool, true, false}
use mathlib.Core.Option.{Option, none, some}
use native.Mathlib.Omega.{arith}
use lib.Dec.{ltb}
use borrow.Author.Tests.{ltb-true, ltb-false}
use Rattle.semantics.specs.Checking.{Broken}
use Rattle.checker.specs.declared.Fault as Fault
use Rattle.checker.specs.Verdicts.{on_steps, on_fault}
use Rattle.checker.specs.Nodes.{fault_found}
use Rattle.checker.specs.Refinement.{decided}

-- The verdict after the loop, with the step number capped at 2 ^ 32.
pub decided_answer : (o : Option Broken) (k : ℕ) (words : ℕ → ℕ) → decided (fault_found o) (min k (2 ^ 32)) ≡ (on_fault o k words).verdict
decided_answer (some b) k words = refl
decided_answer none k words = by (ltb (2 ^ 32 - 1) k) refl
  where
    by : (b : Bool) → ltb (2 ^ 32 - 1) k ≡ b → decided (fault_found none) (min k (2 ^ 32)) ≡ (on_steps k words).verdict
    by true e =
        let past = ltb-true (2 ^ 32 - 1) k e in
        let capped : min k (2 ^ 32) ≡ 2 ^ 32 = omega arith in
        rw (e, capped)
    by false e =
        let within = ltb-false (2 ^ 32 - 1) k e in
        let whole-number : min k (2 ^ 32) ≡ k = omega arith in
        rw (whole-number, e)

-- After a refusal the words hold 0.
pub words_cleared : (o : Option Broken) (k : ℕ) (f : Fault.Fault) (words : ℕ → ℕ) → (on_fault o k words).verdict ≡ Err f → (on_fault o k words).words ≡ (λ j. 0)
words_cleared (some b) k f words e = refl
words_cleared none k f words e = by (ltb (2 ^ 32 - 1) k) refl e
  where
    by : (b : Bool) → ltb (2 ^ 32 - 1) k ≡ b → (on_steps k words).verdict ≡ Err f → (on_steps k words).words ≡ (λ j. 0)
    by true t e = rw t
    by false t e = absurd (let f = rw t at e in let z : ◌≡◌ {A = ℕ} 0 1 = cc in omega arith)
