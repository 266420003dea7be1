-- The answer as one number: every answer is small enough for it, whatever the files are, and the number determines the answer but for the
-- states that a pair's own fault names.
use Prim.Native.Nat.{ℕ, ◌+◌, ◌*◌, ◌/◌, ◌%◌, ◌^◌, ◌≤◌, ◌<◌}
use mathlib.Core.Bool.{Bool, true, false, ◌&&◌}
use mathlib.Core.List.{List}
use mathlib.Core.Path.{◌≡◌, refl, subst}
use native.Mathlib.Omega.{arith}
use borrow.Author.Tests.{lt-ltb, le-ltb}
use lib.Dec.{ltb, leb}
use lib.ListN.{length}
use Rattle.std.specs.Prelude.{Ok, Err}
use Rattle.search.specs.declared.Named.TheVariants.{Nothing}
use Rattle.pair.specs.Limits.{most_handler_bytes, most_proof_bytes}
use Rattle.pair.specs.Modes.{rows}
use Rattle.checker.specs.declared.Place.{Place}
use Rattle.checker.specs.declared.Place.TheVariants.{Bit, Node}
use Rattle.checker.specs.declared.Fault.{Fault}
use Rattle.checker.specs.Verdicts.{answer}
use Rattle.checker.proofs.Bounds.{Bounded, bounded}
use Rattle.report.specs.Code.{place_kind, index_of, code_of}
use Rattle.report.proofs.Decoding.{place_small}
use Rattle.composition.specs.Coding.{number_of, without_states, of_number}
use Rattle.joint.specs.Composing.{Composition, made, refused, plain, asked, compose, with_room, compose_into, side_of}
use Rattle.composition.specs.Answers.{Composed, turned, composed, MadeIsAccepted}
use Rattle.composition.specs.Refinement.{Small}
use Rattle.joint.proofs.Outcomes.{Success, Refusal, few_words, first_long, second_long, first_refused, second_refused, other_variables, second_outside, first_outside, leads_out, past_limits, succeeded, refused_only}
use Rattle.joint.proofs.Theorems.{limits}

-- A fault of the check is small.
own_small : (h p : List ℕ) (words pair : ℕ) → pair ≤ 2 → (f : Fault) → (answer h p rows words).verdict ≡ Err f → Small (Err (turned pair f))
own_small h p words pair few f e =
    let b : Bounded (Err f) = subst Bounded e (bounded h p rows words) in (few, b.0, omega arith, place_small f.place b.2)

plain_small : (pair k : ℕ) → pair ≤ 2 → 0 < k → k ≤ 95 → Small (Err (turned pair (plain k)))
unfolding index_of
plain_small pair k few positive most = (few, positive, most, omega arith)

module _ (h p h' p' : List ℕ) (words : ℕ) where
  refusal_small : {pair : ℕ} {f : Fault} → Refusal h p h' p' words pair f → Small (Err (turned pair f))
  refusal_small (few_words e) = plain_small 0 1 (omega arith) (omega arith) (omega arith)
  refusal_small (first_long e g) = plain_small 1 2 (omega arith) (omega arith) (omega arith)
  refusal_small (second_long e g i) = plain_small 2 2 (omega arith) (omega arith) (omega arith)
  refusal_small (first_refused r f e) = own_small h p words 1 (omega arith) f e
  refusal_small (second_refused r k e f e') = own_small h' p' words 2 (omega arith) f e'
  refusal_small (other_variables both e) = plain_small 0 90 (omega arith) (omega arith) (omega arith)
  refusal_small (second_outside both e g) = plain_small 0 91 (omega arith) (omega arith) (omega arith)
  refusal_small (first_outside both e g i) = plain_small 0 92 (omega arith) (omega arith) (omega arith)
  refusal_small (leads_out both e g i j) = plain_small 0 93 (omega arith) (omega arith) (omega arith)
  refusal_small (past_limits c e) = plain_small 0 94 (omega arith) (omega arith) (omega arith)

  success_small : (k : ℕ) (hout pout : List ℕ) → Success h p h' p' words k hout pout → Small (composed (made k hout pout))
  success_small k hout pout s =
      let l = limits h h' (side_of h p) (side_of h' p') k s.within_limits_lem in
      rw (s.handler_is, s.proof_is) (omega (arith, l.steps_most), l.handler_length, l.proof_length)

  pub answer_small : (room room' : ℕ) → Small (composed (with_room (compose h p h' p' words) room room'))
  unfolding with_room
  answer_small room room' = by (compose h p h' p' words) refl
    where
      room_small : (o : Composition) → Small (composed o) → (t : Bool) → Small (composed (asked 95 t o))
      room_small o small true = small
      room_small o small false = plain_small 0 95 (omega arith) (omega arith) (omega arith)

      by : (o : Composition) → compose h p h' p' words ≡ o → Small (composed (with_room o room room'))
      by (refused pair f) e = refusal_small (refused_only h p h' p' words pair f e)
      by (made k H P) e =
          room_small (made k H P) (success_small k H P (succeeded h p h' p' words k H P e)) (leb (length H) room && leb (length P) room')

-- The parts of the number where files were written, and of that of a refusal.
made_parts : (steps handler proof : ℕ) → steps < 2 ^ 32 → handler ≤ most_handler_bytes → proof ≤ most_proof_bytes
    → (code : ℕ) → code ≡ steps + 2 ^ 32 * handler + 2 ^ 47 * proof
    → (ltb code (2 ^ 63) ≡ true) × (code % 2 ^ 32 ≡ steps) × (code / 2 ^ 32 % 2 ^ 15 ≡ handler) × (code / 2 ^ 47 ≡ proof)
made_parts steps handler proof s h p code e = (lt-ltb code (2 ^ 63) (omega arith), omega arith, omega arith, omega arith)

refused_parts : (pair number kind index : ℕ) → pair ≤ 2 → number ≤ 95 → kind < 2 → index < 2 ^ 32
    → (code : ℕ) → code ≡ 2 ^ 63 + 2 ^ 48 * pair + ((number % 2 ^ 31 * 2 + kind) * 2 ^ 32 + index % 2 ^ 32)
    → (ltb code (2 ^ 63) ≡ false) × (code / 2 ^ 48 % 2 ^ 15 ≡ pair) × (code / 2 ^ 33 % 2 ^ 15 ≡ number) × (code / 2 ^ 32 % 2 ≡ kind)
    × (code % 2 ^ 32 ≡ index)
refused_parts pair number kind index p n k i code e =
    (le-ltb code (2 ^ 63) (omega arith), omega arith, omega arith, omega arith, omega arith)

refusal_decoded : (pair number : ℕ) (place : Place) → pair ≤ 2 → number ≤ 95 → index_of place < 2 ^ 32
    → let f : Fault = record { number = number; place = place; states = Nothing } in
    of_number (number_of (Err (turned pair f))) ≡ Err (turned pair f)
unfolding of_number number_of code_of place_kind index_of
refusal_decoded pair number (Bit i) p n h =
    let f : Fault = record { number = number; place = Bit i; states = Nothing } in
    let e = refused_parts pair number 0 i p n (omega arith) h (number_of (Err (turned pair f))) refl in
    rw (e.0, e.1, e.2, e.3, e.4)
refusal_decoded pair number (Node k) p n h =
    let f : Fault = record { number = number; place = Node k; states = Nothing } in
    let e = refused_parts pair number 1 k p n (omega arith) h (number_of (Err (turned pair f))) refl in
    rw (e.0, e.1, e.2, e.3, e.4)

small_decoded : (c : Composed) → Small c → of_number (number_of c) ≡ without_states c
unfolding of_number number_of without_states code_of
small_decoded (Ok m) s =
    let e = made_parts m.steps m.handler m.proof s.0 s.1 s.2 (number_of (Ok m)) refl in
    rw (e.0, e.1, e.2, e.3)
small_decoded (Err t) s = refusal_decoded t.pair t.fault.number t.fault.place s.0 s.2 s.3

-- The number determines the answer but for the states, for all files and buffers.
pub number_decoded : (h p h' p' work hout pout : List ℕ)
    → of_number (number_of (composed (compose_into h p h' p' work hout pout))) ≡ without_states (composed (compose_into h p h' p' work hout pout))
number_decoded h p h' p' work hout pout = small_decoded _ (answer_small h p h' p' (length work) (length hout) (length pout))

-- An answer without its states has files where the answer has them.
promised_alike : (c : Composed) (hout pout : List ℕ) → MadeIsAccepted c hout pout → MadeIsAccepted (without_states c) hout pout
unfolding without_states
promised_alike (Ok m) hout pout so = so
promised_alike (Err t) hout pout so = record { always = λ m e. absurd (let z : ◌≡◌ {A = ℕ} 0 1 = cc in omega arith) }

-- So what is promised of the answer is promised of what its number encodes.
pub number_promised : (h p h' p' work hout pout : List ℕ) (c : Composed) (H P : List ℕ) → c ≡ composed (compose_into h p h' p' work hout pout)
    → MadeIsAccepted c H P → MadeIsAccepted (of_number (number_of c)) H P
number_promised h p h' p' work hout pout c H P e so =
    rw (e, number_decoded h p h' p' work hout pout) (promised_alike _ H P (subst (λ r. MadeIsAccepted r H P) e so))

-- The code of a small fault leaves the bits from 48 on free.
pub fault_below : (f : Fault) → f.number ≤ 95 → code_of (Err f) < 2 ^ 48
unfolding code_of place_kind
fault_below f n = by f.place
  where
    by : (place : Place) → (f.number % 2 ^ 31 * 2 + place_kind place) * 2 ^ 32 + index_of place % 2 ^ 32 < 2 ^ 48
    by (Bit i) = omega arith
    by (Node k) = omega arith
