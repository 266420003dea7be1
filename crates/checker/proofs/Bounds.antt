-- Every verdict is small, whatever the files are: a refusal's number is 1 to 80, its bit is at most the number of bits of the longest
-- file, and its node is below 127. So a verdict can be sent as one number of 64 bits.
use Rattle.std.specs.Prelude.{Ok, Err}
use Prim.Native.Nat.{ℕ, ◌+◌, ◌-◌, ◌^◌, ◌≤◌, ◌<◌}
use mathlib.Core.Bool.{Bool, true, false, cond}
use mathlib.Core.List.{List}
use mathlib.Core.Option.{Option, none, some}
use mathlib.Core.Path.{◌≡◌, refl}
use native.Mathlib.Omega.{arith}
use borrow.Author.Tests.{ltb-false}
use lib.Dec.{ltb}
use Rattle.bits.proofs.Places.{either}
use Rattle.semantics.specs.Derivations.{nodes}
use Rattle.semantics.specs.Checking.{Broken, first_fault}
use Rattle.semantics.proofs.Numbers as Numbers
use Rattle.derivation.specs.Tables.{work_words}
use Rattle.derivation.proofs.Files.{read_known}
use Rattle.pair.specs.declared.Mode.{Mode}
use Rattle.pair.specs.Reading.{states_of, steps_of, PairRead, pair, faulty, long, read_pair}
use Rattle.pair.specs.Modes.{tables_in, table_words}
use Rattle.pair.proofs.Cases.{Case, is_long, holds, case}
use Rattle.pair.proofs.Bounds.{most_bits, fault_small}
use Rattle.checker.specs.declared.Place.{Place}
use Rattle.checker.specs.declared.Place.TheVariants.{Bit, Node}
use Rattle.checker.specs.Verdicts.{Verdict, refused_at, CheckResult, cleared, on_steps, on_fault, on_pair, answer}

abbrev pub PlaceBounded : Place → Type 0
PlaceBounded (Bit i) = i ≤ most_bits
PlaceBounded (Node k) = k < 127

abbrev pub Bounded : Verdict → Type 0
Bounded (Ok k) = k < 2 ^ 32
Bounded (Err f) = (1 ≤ f.number) × (f.number ≤ 80) × PlaceBounded f.place

abbrev Small : CheckResult → Type 0
Small r = Bounded r.verdict

steps_small : (k : ℕ) (words : ℕ → ℕ) → Small (on_steps k words)
steps_small k words = by (ltb (2 ^ 32 - 1) k) refl
  where
    by : (b : Bool) → ltb (2 ^ 32 - 1) k ≡ b → Small (cond b (cleared (refused_at 80 (Node 0))) (record { verdict = Ok k; writes = true; words = words }))
    by true t = omega arith
    by false t = omega (arith, ltb-false (2 ^ 32 - 1) k t)

broken_small : (past : ℕ) → past ≤ 127 → (o : Option Broken) → Numbers.FaultIn 0 past o → (k : ℕ) (words : ℕ → ℕ) → Small (on_fault o k words)
unfolding Numbers.FaultIn
broken_small past few none p k words = steps_small k words
broken_small past few (some b) p k words = omega arith

module _ (hb pb : List ℕ) (mode : Mode) where
  by_case : (r : PairRead) → Case hb pb r → Small (on_pair pb mode r)
  by_case long (is_long e) = omega arith
  by_case (faulty k place) c = omega (arith, fault_small hb pb k place c)
  by_case (pair x) (holds h) =
      let t = tables_in pb mode x in
      let few = (read_known pb (states_of x) x.sets x.relations x.root_bit x.derivation h.proof_read).nodes_most in
      broken_small (0 + nodes x.derivation) (omega arith) (first_fault t x.derivation x.statement 0)
      (Numbers.fault_in t x.derivation x.statement 0) (steps_of x) (table_words pb mode x)

  pub bounded : (words : ℕ) → Bounded (answer hb pb mode words).verdict
  unfolding answer
  bounded words = either Small (ltb words work_words) _ _ (omega arith) (by_case (read_pair hb pb) (case hb pb))
