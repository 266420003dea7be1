-- docs/ADMISSION.md, "What is promised": any list of calls from a bare frame, and the guests that are present after it.
use Rattle.std.specs.Prelude.{ℕ, ◌+◌, ◌*◌, ◌≤◌, ◌<◌, true, cond, List, [], ◌∷◌, ◌++◌, map, ◌≡◌, Err, is_ok, Ok}
use Rattle.pair.specs.Modes.{rows}
use Rattle.checker.specs.Verdicts.{Verdict}
use Rattle.checker.specs.Verdicts as Verdicts
use Rattle.frame.specs.declared.Slot.{Slot}
use Rattle.frame.specs.declared.Frame.{Frame}
use Rattle.frame.specs.declared.Refusal.TheVariants.{NoRoom}
use Rattle.frame.specs.declared.Outcome.{Outcome}
use Rattle.frame.specs.Slots.{places, held, total, others, laid_from, apart, well_formed, frame_of, bare}
use Rattle.frame.specs.Served.{Served}
use Rattle.frame.specs.Calls.{Answer, admit, released}

-- An admission: the guest's place, its two files, its ticks per step and how many work words are lent.
pub record Admission : Type 0 where
  pub place : ℕ
  pub handler : List ℕ
  pub proof : List ℕ
  pub ticks : ℕ
  pub words : ℕ

pub data Call : Type 0 where
  admission : Admission → Call
  release : ℕ → Call

-- The step number of an accepted pair; a refused one has none.
abbrev pub stated : Verdict → ℕ
stated (Ok k) = k
stated (Err fault) = 0

abbrev pub steps_of : Admission → ℕ
steps_of a = stated (Verdicts.answer a.handler a.proof rows a.words).verdict

-- What a guest needs: its step number times its ticks per step.
abbrev pub need : Admission → ℕ
need a = steps_of a * a.ticks

-- The answer to a call, and the record after it.
unfoldable pub outcome : Frame → Call → Outcome
outcome f (admission a) = admit f a.place a.handler a.proof a.ticks a.words
outcome f (release place) = released f place

-- The guests present, each as it was admitted, in order of admission. One that is admitted comes last, one that is released goes, and
-- a call that is turned away changes nothing.
abbrev pub when_done : Call → List Admission → List Admission
when_done (admission a) guests = guests ++ (a ∷ [])
when_done (release place) guests = others (λ g. g.place) place guests

abbrev pub guests_after : Answer → Call → List Admission → List Admission
guests_after answer call guests = cond (is_ok answer) (when_done call guests) guests

-- A core: its record, and the guests that are present by the answers so far.
pub record Core : Type 0 where
  pub frame : Frame
  pub guests : List Admission

abbrev pub next : Core → Call → Core
next c call =
    let o = outcome c.frame call in
    record { frame = o.frame; guests = guests_after o.answer call c.guests }

unfoldable pub after : Core → List Call → Core
after c [] = c
after c (call ∷ rest) = after (next c call) rest

abbrev pub after_calls : ℕ → List Call → Core
after_calls n calls = after (record { frame = bare n; guests = [] }) calls

-- The layout of the guests: end to end from tick 0 in their order, each as long as its need.
abbrev pub slot_of : Admission → Slot
slot_of a = record { place = a.place; first = 0; length = need a }

unfoldable pub layout : List Admission → List Slot
layout guests = laid_from 0 (map slot_of guests)

-- The needs of the guests together.
abbrev pub needs : List Admission → ℕ
needs guests = total (layout guests)

-- Two lists of the same length, with this of each two in the same position.
pub data Paired {A B : Type 0} (R : A → B → Type 0) : List A → List B → Type 0 where
  empty : Paired R [] []
  also : {x : A} {y : B} {xs : List A} {ys : List B} → R x y → Paired R xs ys → Paired R (x ∷ xs) (y ∷ ys)

-- What is promised of a core with a frame of n ticks, after any calls.
pub record Kept (n : ℕ) (c : Core) : Type 0 where
  -- the slots are exactly the layout of the guests present
  pub laid : c.frame ≡ frame_of n (layout c.guests)
  -- they end within the frame
  pub within : needs c.guests ≤ n
  -- each place is one of 16, and held by at most one guest
  pub own_places : apart places (layout c.guests) ≡ true
  -- so no call from here is turned away with 102
  pub is_well_formed : well_formed c.frame ≡ true
  -- a guest is refused for room only if the needs admitted and its own add up to more than the frame
  pub room : (a : Admission) → (outcome c.frame (admission a)).answer ≡ Err NoRoom → n < needs c.guests + need a
  -- each guest keeps its promise, and takes no more steps than its slot has ticks for
  pub served : Paired (λ g s. Served g.handler g.proof g.ticks s) c.guests (held c.frame)
