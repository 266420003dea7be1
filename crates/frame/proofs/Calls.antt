-- What each call answers and leaves, case by case, and that a guest that is admitted is served.
use Prim.Native.Nat.{ℕ, ◌+◌, ◌*◌, ◌≤◌, ◌<◌}
use native.Mathlib.Nat.{mul-le-mul_right}
use mathlib.Core.Bool.{Bool, true, false, cond, ◌||◌, true≢false}
use mathlib.Core.List.{List, [], ◌∷◌, ◌++◌}
use mathlib.Core.Option.{none, some}
use mathlib.Core.Path.{◌≡◌, refl, sym, ap, ◌∙◌, subst}
use borrow.Author.Tests.{lt-ltb, le-ltb}
use lib.Dec.{ltb}
use lib.ListN.{length}
use Rattle.semantics.specs.Runs.{steps_made}
use Rattle.pair.specs.Modes.{rows}
use Rattle.checker.specs.Verdicts.{Verdict, AcceptedIsSound, answer}
use Rattle.checker.specs.Verdicts as Verdicts
use Rattle.frame.specs.declared.Slot.{Slot}
use Rattle.frame.specs.declared.Frame.{Frame}
use Rattle.frame.specs.declared.Refusal.{Refusal}
use Rattle.frame.specs.declared.Refusal.TheVariants.{NoSuchPlace, Taken, NotTaken, Malformed, WrongTicks, NoRoom}
use Rattle.frame.specs.declared.Outcome.{Outcome}
use Rattle.frame.specs.Slots.{held, total, holds, without, laid_from, well_formed, frame_of}
use Rattle.std.specs.Prelude.{Ok, is_ok, Err}
use Rattle.frame.specs.Calls.{first_of, turned_away, unless, before_check, on_need, on_verdict, admitted, before_release, released, admit, if_reached, work_after}
use Rattle.frame.specs.Served.{Served, ServedIf}
use Rattle.frame.proofs.Frames.{last_of}

module _ (f : Frame) (place : ℕ) where
  -- The reasons, each if none before it is there.
  module _ (ticks : ℕ) where
    pub no_such_place : ltb 15 place ≡ true → before_check f place ticks ≡ some NoSuchPlace
    unfolding before_check first_of
    no_such_place h = rw h refl

    pub taken : ltb 15 place ≡ false → holds place (held f) ≡ true → before_check f place ticks ≡ some Taken
    unfolding before_check first_of
    taken there h = rw (there, h) refl

    module _ (there : ltb 15 place ≡ false) (free : holds place (held f) ≡ false) where
      pub malformed : well_formed f ≡ false → before_check f place ticks ≡ some Malformed
      unfolding before_check first_of
      malformed h = rw (there, free, h) refl

      pub wrong_ticks : well_formed f ≡ true → (ltb ticks 1 || ltb 1000 ticks) ≡ true → before_check f place ticks ≡ some WrongTicks
      unfolding before_check first_of
      wrong_ticks well h = rw (there, free, well, h) refl

      pub reached : well_formed f ≡ true → (ltb ticks 1 || ltb 1000 ticks) ≡ false → before_check f place ticks ≡ none
      unfolding before_check first_of
      reached well h = rw (there, free, well, h) refl

  pub no_such_guest : ltb 15 place ≡ true → before_release f place ≡ some NoSuchPlace
  unfolding before_release first_of
  no_such_guest h = rw h refl

  module _ (there : ltb 15 place ≡ false) where
    pub not_taken : holds place (held f) ≡ false → before_release f place ≡ some NotTaken
    unfolding before_release first_of
    not_taken h = rw (there, h) refl

    pub ill_formed : holds place (held f) ≡ true → well_formed f ≡ false → before_release f place ≡ some Malformed
    unfolding before_release first_of
    ill_formed h ill = rw (there, h, ill) refl

    pub may_go : holds place (held f) ≡ true → well_formed f ≡ true → before_release f place ≡ none
    unfolding before_release first_of
    may_go h well = rw (there, h, well) refl

  -- Whether there is room for a need.
  module _ (need : ℕ) where
    pub no_room : f.length < total (held f) + need → on_need f place need ≡ turned_away f NoRoom
    unfolding on_need
    no_room over = rw (lt-ltb f.length (total (held f) + need) over) refl

    pub has_room : total (held f) + need ≤ f.length
        → on_need f place need
        ≡ record { frame = frame_of f.length (held f ++ (record { place = place; first = total (held f); length = need } ∷ [])); answer = Ok tt }
    unfolding on_need
    has_room fits = rw (le-ltb f.length (total (held f) + need) fits) refl

-- What a release leaves.
module _ (f : Frame) (place : ℕ) where
  pub not_released : (a : Refusal) → before_release f place ≡ some a → released f place ≡ turned_away f a
  unfolding released
  not_released a why = rw why refl

  pub gap_closed : before_release f place ≡ none
      → released f place ≡ record { frame = frame_of f.length (laid_from 0 (without place (held f))); answer = Ok tt }
  unfolding released
  gap_closed free = rw free refl

-- A slot of k times the ticks serves a guest whose pair is accepted with k.
pub serves : (hb pb : List ℕ) (ticks k : ℕ) (slot : Slot) → AcceptedIsSound hb pb rows (Ok k) → slot.length ≡ k * ticks → Served hb pb ticks slot
serves hb pb ticks k slot sound filled =
    let s = sound.sound k refl in
    record {
      held = s.0;
      read = s.1.0;
      steps = k;
      filled = filled;
      promise = s.1.1;
      in_time = λ events start now in_p runs keeps.
          subst (λ n. steps_made events * ticks ≤ n) (sym filled) (mul-le-mul_right ticks (s.1.1.kept events start now in_p runs keeps).few);
    }

-- What an admission promises: the answer and the record, the work words, and that the guest is served.
abbrev pub Promised : Frame → ℕ → List ℕ → List ℕ → ℕ → List ℕ → Outcome → List ℕ → Type 0
Promised f place hb pb ticks work o after =
    (o ≡ admit f place hb pb ticks (length work)) × ((after ≡ work_after f place hb pb ticks work) × ServedIf (is_ok o.answer) hb pb ticks o.frame)

module _ (f : Frame) (place : ℕ) (hb pb : List ℕ) (ticks : ℕ) (work : List ℕ) where
  pub turned : (a : Refusal) (o : Outcome) → before_check f place ticks ≡ some a → o ≡ turned_away f a
      → Promised f place hb pb ticks work o work
  unfolding admit admitted work_after
  turned a o why is = (
    is ∙ ap (λ x. unless f x (on_verdict f place ticks (answer hb pb rows (length work)).verdict)) (sym why),
    (
      ap (λ x. if_reached x (Verdicts.work_after hb pb rows work) work) (sym why),
      record { served = λ d. absurd (true≢false (sym d ∙ ap (λ x. is_ok x.answer) is)) },
    ),
  )

  -- A need that fits has its slot at the end.
  need_served : (k : ℕ) → AcceptedIsSound hb pb rows (Ok k)
      → ServedIf (is_ok (on_need f place (k * ticks)).answer) hb pb ticks (on_need f place (k * ticks)).frame
  unfolding on_need
  need_served k sound = by (ltb f.length (total (held f) + k * ticks))
    where
      slot : Slot
      slot = record { place = place; first = total (held f); length = k * ticks }

      by : (b : Bool)
          → let o : Outcome = cond b (turned_away f NoRoom) (record { frame = frame_of f.length (held f ++ (slot ∷ [])); answer = Ok tt }) in
          ServedIf (is_ok o.answer) hb pb ticks o.frame
      by true = record { served = λ d. absurd (true≢false (sym d)) }
      by false = record { served = λ d. subst (Served hb pb ticks) (sym (last_of f.length (held f) slot)) (serves hb pb ticks k slot sound refl) }

  pub checked : (v : Verdict) (o : Outcome) (after : List ℕ) → before_check f place ticks ≡ none → v ≡ (answer hb pb rows (length work)).verdict
      → after ≡ Verdicts.work_after hb pb rows work → AcceptedIsSound hb pb rows v → o ≡ on_verdict f place ticks v → Promised f place hb pb ticks work o after
  unfolding admit admitted work_after
  checked v o after free verdict words sound is = (
    is ∙ ap (on_verdict f place ticks) verdict ∙ ap (λ x. unless f x (on_verdict f place ticks (answer hb pb rows (length work)).verdict)) (sym free),
    (
      words ∙ ap (λ x. if_reached x (Verdicts.work_after hb pb rows work) work) (sym free),
      subst (λ x. ServedIf (is_ok x.answer) hb pb ticks x.frame) (sym is) (by v sound),
    ),
  )
    where
      by : (v : Verdict) → AcceptedIsSound hb pb rows v → ServedIf (is_ok (on_verdict f place ticks v).answer) hb pb ticks (on_verdict f place ticks v).frame
      by (Ok k) s = need_served k s
      by (Err fault) s = record { served = λ d. absurd (true≢false (sym d)) }
