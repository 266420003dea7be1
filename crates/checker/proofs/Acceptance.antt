-- A pair is accepted exactly when it is acceptable. Each stage of `answer` lets an acceptable pair through and refuses every other.
use Rattle.std.specs.Prelude.{Ok}
use Prim.Native.Nat.{ℕ, ◌-◌, ◌^◌, ◌≤◌, ◌<◌}
use mathlib.Core.Path.{◌≡◌, refl}
use mathlib.Core.Bool.{Bool, true, false}
use mathlib.Core.List.{List}
use mathlib.Core.Logic.{◌↔◌}
use mathlib.Core.Option.{Option, none, some}
use native.Mathlib.Omega.{arith}
use lib.Dec.{ltb}
use borrow.Author.Tests.{ltb-false, le-ltb}
use Rattle.semantics.specs.Checking.{Broken, first_fault}
use Rattle.derivation.specs.Tables.{work_words}
use Rattle.pair.specs.declared.Mode.{Mode}
use Rattle.pair.specs.Reading.{steps_of, PairRead, pair, faulty, long, read_pair}
use Rattle.pair.specs.Modes.{tables_in, table_words}
use Rattle.checker.specs.Verdicts.{on_steps, on_fault, on_pair, answer}
use Rattle.checker.specs.Acceptance.{Acceptable}
use Rattle.checker.proofs.Judging.{few_words, as_read}

-- 80: the number that is stated is the step number, and within its limit.
by_steps : (n k : ℕ) (words : ℕ → ℕ) → (on_steps n words).verdict ≡ Ok k → (k ≡ n) × (k ≤ 4294967295)
by_steps n k words = by (ltb (2 ^ 32 - 1) n) refl
  where
    by : (b : Bool) → ltb (2 ^ 32 - 1) n ≡ b → (on_steps n words).verdict ≡ Ok k → (k ≡ n) × (k ≤ 4294967295)
    by true t e = absurd (let f = rw t at e in let z : ◌≡◌ {A = ℕ} 0 1 = cc in omega arith)
    by false t e =
        let f = rw t at e in
        let is : k ≡ n = cc in
        (is, omega (arith, ltb-false (2 ^ 32 - 1) n t))

-- 30 to 73: no condition is broken.
by_fault : (o : Option Broken) (n k : ℕ) (words : ℕ → ℕ) → (on_fault o n words).verdict ≡ Ok k → (o ≡ none) × ((k ≡ n) × (k ≤ 4294967295))
by_fault none n k words e = (refl, by_steps n k words e)
by_fault (some b) n k words e = absurd (let z : ◌≡◌ {A = ℕ} 0 1 = cc in omega arith)

module _ (hb pb : List ℕ) (mode : Mode) (words k : ℕ) where
  -- 2, and 10 to 25: both files are read.
  by_pair : work_words ≤ words → (r : PairRead) → read_pair hb pb ≡ r → (on_pair pb mode r).verdict ≡ Ok k → Acceptable hb pb mode words k
  by_pair enough long is e = absurd (let z : ◌≡◌ {A = ℕ} 0 1 = cc in omega arith)
  by_pair enough (faulty j place) is e = absurd (let z : ◌≡◌ {A = ℕ} 0 1 = cc in omega arith)
  by_pair enough (pair x) is e =
      let (unbroken, (number, limit)) = by_fault (first_fault (tables_in pb mode x) x.derivation x.statement 0) (steps_of x) k (table_words pb mode x) e in
      record { enough = enough; held = x; read = is; unbroken = unbroken; number = number; limit = limit }

  accepted : (answer hb pb mode words).verdict ≡ Ok k → Acceptable hb pb mode words k
  accepted e =
      let few : words < work_words → ⊥ = λ low. let f = few_words hb pb mode words low in let z : ◌≡◌ {A = ℕ} 0 1 = cc in omega arith in
      let enough : work_words ≤ words = omega arith in
      by_pair enough (read_pair hb pb) refl (rw (as_read hb pb mode words enough _ refl) at e)

  acceptable : Acceptable hb pb mode words k → (answer hb pb mode words).verdict ≡ Ok k
  acceptable a = rw (as_read hb pb mode words a.enough _ a.read, a.unbroken, ← a.number, le-ltb (2 ^ 32 - 1) k (omega arith))

  pub accepted_exactly : ((answer hb pb mode words).verdict ≡ Ok k) ↔ Acceptable hb pb mode words k
  accepted_exactly = (accepted, acceptable)
