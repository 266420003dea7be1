-- A verdict can be recovered from its code, and its states from theirs: quotients and remainders by powers of two give the parts, and
-- every verdict of the check is small enough (`bounded` and `names_states` of `checker`).
use Rattle.std.specs.Prelude.{Ok, Err}
use Prim.Native.Nat.{ℕ, ◌+◌, ◌*◌, ◌/◌, ◌%◌, ◌^◌, ◌≤◌, ◌<◌}
use mathlib.Core.Path.{◌≡◌, refl}
use mathlib.Core.Bool.{false}
use mathlib.Core.List.{List, [], ◌∷◌}
use native.Mathlib.Omega.{arith}
use lib.Dec.{ltb}
use borrow.Author.Tests.{lt-ltb, le-ltb}
use Rattle.states.specs.Sets.{capacity}
use Rattle.semantics.specs.Facts.{states_named}
use Rattle.semantics.proofs.Facts.{few_named}
use Rattle.semantics.proofs.Naming.{Named, nothing, state}
use Rattle.pair.specs.declared.Mode.{Mode}
use Rattle.checker.specs.Verdicts.{Verdict, refused_at, answer, AcceptedIsSound}
use Rattle.checker.specs.declared.Place.{Place}
use Rattle.checker.specs.declared.Place.TheVariants.{Bit, Node}
use Rattle.checker.proofs.Bounds.{PlaceBounded, Bounded, bounded}
use Rattle.checker.proofs.Names.{NamesStates, names_states}
use Rattle.report.specs.Code.{place_kind, index_of, code_of, without_states, Lossless, decoded}
use Rattle.report.specs.States.{states_of, states_number, states_decoded}

-- The parts of a refusal's code.
parts : (number kind index : ℕ) → 0 < number → number < 2 ^ 31 → kind < 2 → index < 2 ^ 32
    → (code : ℕ) → code ≡ (number % 2 ^ 31 * 2 + kind) * 2 ^ 32 + index % 2 ^ 32
    → (ltb code (2 ^ 32) ≡ false) × (code / 2 ^ 33 ≡ number) × (code / 2 ^ 32 % 2 ≡ kind) × (code % 2 ^ 32 ≡ index)
parts number kind index positive below k i code e = (le-ltb code (2 ^ 32) (omega arith), omega arith, omega arith, omega arith)

refused_back : (number : ℕ) (place : Place) → 0 < number → number < 2 ^ 31 → index_of place < 2 ^ 32
    → decoded (code_of (refused_at number place)) ≡ refused_at number place
unfolding decoded code_of place_kind index_of
refused_back number (Bit i) positive below h =
    let p = parts number 0 i positive below (omega arith) h (code_of (refused_at number (Bit i))) refl in
    rw (p.0, p.1, p.2, p.3)
refused_back number (Node k) positive below h =
    let p = parts number 1 k positive below (omega arith) h (code_of (refused_at number (Node k))) refl in
    rw (p.0, p.1, p.2, p.3)

-- A code that cuts nothing off determines its verdict but for the states.
pub decoded_back : (v : Verdict) → Lossless v → decoded (code_of v) ≡ without_states v
unfolding decoded code_of without_states
decoded_back (Ok n) h = rw (lt-ltb n (2 ^ 32) h)
decoded_back (Err f) h = refused_back f.number f.place h.0 h.1 h.2

pub place_small : (place : Place) → PlaceBounded place → index_of place < 2 ^ 32
unfolding index_of
place_small (Bit i) h = omega arith
place_small (Node k) h = omega arith

pub lossless : (v : Verdict) → Bounded v → Lossless v
lossless (Ok n) h = h
lossless (Err f) h = (h.0, omega arith, place_small f.place h.2)

-- The code of every verdict of the check determines it but for the states, whatever the files and the mode are.
pub answer_decoded : (hb pb : List ℕ) (mode : Mode) (words : ℕ)
    → decoded (code_of (answer hb pb mode words).verdict) ≡ without_states (answer hb pb mode words).verdict
answer_decoded hb pb mode words = let v = (answer hb pb mode words).verdict in decoded_back v (lossless v (bounded hb pb mode words))

-- A verdict without its states accepts what the verdict accepts.
pub accepted_alike : (hb pb : List ℕ) (mode : Mode) (v : Verdict) → AcceptedIsSound hb pb mode v → AcceptedIsSound hb pb mode (without_states v)
unfolding without_states
accepted_alike hb pb mode (Ok n) sound = sound
accepted_alike hb pb mode (Err f) sound = record { sound = λ k e. absurd (let z : ◌≡◌ {A = ℕ} 0 1 = cc in omega arith) }

-- The parts of the number of up to three states that a set can hold.
fields : (count s t u : ℕ) → s < capacity → t < capacity → u < capacity → (code : ℕ) → code ≡ count * 2 ^ 24 + s + 2 ^ 8 * t + 2 ^ 16 * u
    → (code / 2 ^ 24 ≡ count) × (code % 2 ^ 8 ≡ s) × (code / 2 ^ 8 % 2 ^ 8 ≡ t) × (code / 2 ^ 16 % 2 ^ 8 ≡ u)
fields count s t u low low' low'' code e = (omega arith, omega arith, omega arith, omega arith)

states_back : (k : ℕ) (states : List ℕ) → k ≤ 3 → Named capacity k states → states_decoded (states_number states) ≡ states
unfolding states_decoded states_number
states_back k states few nothing = refl
states_back k states few (state {s = s} low nothing) =
    let p = fields 1 s 0 0 low (omega arith) (omega arith) (states_number (s ∷ [])) refl in rw (p.0, p.1)
states_back k states few (state {s = s} low (state {s = t} low' nothing)) =
    let p = fields 2 s t 0 low low' (omega arith) (states_number (s ∷ t ∷ [])) refl in rw (p.0, p.1, p.2)
states_back k states few (state {s = s} low (state {s = t} low' (state {s = u} low'' nothing))) =
    let p = fields 3 s t u low low' low'' (states_number (s ∷ t ∷ u ∷ [])) refl in rw (p.0, p.1, p.2, p.3)
states_back k states few (state low (state low' (state low'' (state low''' more)))) = absurd (omega arith)

-- The states of every verdict of the check can be recovered, whatever the files and the mode are.
pub states_decoded_lem : (hb pb : List ℕ) (mode : Mode) (words : ℕ)
    → states_decoded (states_number (states_of (answer hb pb mode words).verdict)) ≡ states_of (answer hb pb mode words).verdict
unfolding states_of
states_decoded_lem hb pb mode words = by (answer hb pb mode words).verdict (names_states hb pb mode words)
  where
    by : (v : Verdict) → NamesStates v → states_decoded (states_number (states_of v)) ≡ states_of v
    by (Ok n) p = states_back 0 (states_of (Ok n)) (omega arith) nothing
    by (Err f) p = states_back (states_named f.number) (states_of (Err f)) (few_named f.number) p
