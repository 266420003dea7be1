-- docs/ADMISSION.md, "What is turned away": 100, 101, 102, 104, the checker's own numbers, 103; and what each call leaves.
use Rattle.std.specs.Prelude.{ℕ, ◌+◌, ◌*◌, Bool, not, cond, ◌||◌, List, [], ◌∷◌, ◌++◌, ltb, Result, Ok, Err}
use Rattle.std.proofs.Math.Option.{Option, none, some}
use Rattle.pair.specs.Modes.{rows}
use Rattle.checker.specs.declared.Fault.{Fault}
use Rattle.checker.specs.Verdicts.{Verdict}
use Rattle.checker.specs.Verdicts as Verdicts
use Rattle.frame.specs.declared.Frame.{Frame}
use Rattle.frame.specs.declared.Refusal.{Refusal}
use Rattle.frame.specs.declared.Refusal.TheVariants.{NoSuchPlace, Taken, NotTaken, Malformed, WrongTicks, Check, NoRoom}
use Rattle.frame.specs.declared.Outcome.{Outcome}
use Rattle.frame.specs.Slots.{held, total, holds, without, laid_from, well_formed, frame_of}

-- The answer to a call: that it was done, or why it is turned away.
abbrev pub Answer : Type 0
Answer = Result (Unit {0}) Refusal

-- The numbers of the refusals. Those without a place of their own are at bit 0.
abbrev pub at_bit0 : ℕ → Fault
at_bit0 k = Verdicts.at_bit k 0

abbrev pub refusal_fault : Refusal → Fault
refusal_fault NoSuchPlace = at_bit0 100
refusal_fault Taken = at_bit0 101
refusal_fault NotTaken = at_bit0 101
refusal_fault Malformed = at_bit0 102
refusal_fault WrongTicks = at_bit0 104
refusal_fault (Check fault) = fault
refusal_fault NoRoom = at_bit0 103

abbrev pub as_verdict : Answer → Verdict
as_verdict (Ok x) = Ok 0
as_verdict (Err why) = Err (refusal_fault why)

-- A reason to turn a call away: whether it is there, and its refusal. The first that is there is given.
pub record Reason : Type 0 where
  pub there : Bool
  pub refusal : Refusal

abbrev pub reason : Bool → Refusal → Reason
reason b why = record { there = b; refusal = why }

unfoldable pub first_of : List Reason → Option Refusal
first_of [] = none
first_of (r ∷ rest) = cond r.there (some r.refusal) (first_of rest)

-- A call that is turned away leaves the record unchanged.
abbrev pub turned_away : Frame → Refusal → Outcome
turned_away f why = record { frame = f; answer = Err why }

abbrev pub unless : Frame → Option Refusal → Outcome → Outcome
unless f none next = next
unless f (some why) next = turned_away f why

-- Over a record and a guest's place.
module _ (f : Frame) (place : ℕ) where
  -- What is asked before the check, with so many ticks per step.
  unfoldable pub before_check : ℕ → Option Refusal
  before_check ticks =
      first_of (
      reason (ltb 15 place) NoSuchPlace
      ∷ reason (holds place (held f)) Taken
      ∷ reason (not (well_formed f)) Malformed
      ∷ reason (ltb ticks 1 || ltb 1000 ticks) WrongTicks
      ∷ [])

  -- A guest with this need: its slot begins where the last one ends, unless it then goes past the frame.
  unfoldable pub on_need : ℕ → Outcome
  on_need need =
      cond (ltb f.length (total (held f) + need)) (turned_away f NoRoom)
      (record {
        frame = frame_of f.length (held f ++ (record { place = place; first = total (held f); length = need } ∷ []));
        answer = Ok tt;
      })

  -- The need is the step number times the ticks per step.
  abbrev pub on_verdict : ℕ → Verdict → Outcome
  on_verdict ticks (Err fault) = turned_away f (Check fault)
  on_verdict ticks (Ok k) = on_need (k * ticks)

  -- What an admission does, with the verdict of the check.
  unfoldable pub admitted : ℕ → Verdict → Outcome
  admitted ticks v = unless f (before_check ticks) (on_verdict ticks v)

  -- What is asked before a release.
  unfoldable pub before_release : Option Refusal
  before_release =
      first_of (
      reason (ltb 15 place) NoSuchPlace
      ∷ reason (not (holds place (held f))) NotTaken
      ∷ reason (not (well_formed f)) Malformed
      ∷ [])

  -- A release closes the gap.
  unfoldable pub released : Outcome
  released =
      unless f before_release (record { frame = frame_of f.length (laid_from 0 (without place (held f))); answer = Ok tt })

-- An admission of two files with so many work words.
unfoldable pub admit : Frame → ℕ → List ℕ → List ℕ → ℕ → ℕ → Outcome
admit f place hb pb ticks words = admitted f place ticks (Verdicts.answer hb pb rows words).verdict

-- The work words at exit: as the check leaves them, and untouched if it is not reached.
abbrev pub if_reached : Option Refusal → List ℕ → List ℕ → List ℕ
if_reached none after before = after
if_reached (some why) after before = before

unfoldable pub work_after : Frame → ℕ → List ℕ → List ℕ → ℕ → List ℕ → List ℕ
work_after f place hb pb ticks work = if_reached (before_check f place ticks) (Verdicts.work_after hb pb rows work) work
