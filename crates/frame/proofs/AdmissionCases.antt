-- Worked cases of docs/ADMISSION.md: each call with its number and the numbers of the record after it.
use Rattle.std.specs.Prelude.{Ok, Err}
use Prim.Native.Nat.{ℕ}
use mathlib.Core.Path.{◌≡◌, refl}
use mathlib.Core.List.{List, [], ◌∷◌}
use Rattle.checker.specs.declared.Place.TheVariants.{Node}
use Rattle.checker.specs.Verdicts.{Verdict, refused_at}
use Rattle.frame.specs.declared.Slot.{Slot}
use Rattle.frame.specs.declared.Frame.{Frame}
use Rattle.frame.specs.declared.Outcome.{Outcome}
use Rattle.frame.specs.Slots.{held, total, holds, others, laid_from, end_to_end, apart, laid_within, well_formed, frame_of}
use Rattle.frame.specs.Calls.{as_verdict, first_of, before_check, on_need, admitted, before_release, released}
use Rattle.frame.specs.Lent.{slot_numbers}

-- The number of an answer, 0 if the call was done, and what the record holds.
abbrev number_of : Verdict → ℕ
number_of (Ok k) = 0
number_of (Err fault) = fault.number

abbrev shown : Outcome → List ℕ
shown o = number_of (as_verdict o.answer) ∷ o.frame.length ∷ o.frame.count ∷ slot_numbers (held o.frame)

abbrev slot : ℕ → ℕ → ℕ → Slot
slot place first length = record { place = place; first = first; length = length }

-- A frame of 10 ticks with two guests: place 3 has ticks 0 to 3, and place 5 has ticks 4 to 7.
abbrev two : Frame
two = frame_of 10 (slot 3 0 4 ∷ slot 5 4 4 ∷ [])

abbrev broken : Verdict
broken = refused_at 31 (Node 0)

pub worked :
    -- the third guest just fits, needs no tick, is one tick too long, or needs 2 ^ 32 ticks
    (shown (admitted two 7 2 (Ok 1)) ≡ 0 ∷ 10 ∷ 3 ∷ 3 ∷ 0 ∷ 4 ∷ 5 ∷ 4 ∷ 4 ∷ 7 ∷ 8 ∷ 2 ∷ [])
    × (shown (admitted two 7 2 (Ok 0)) ≡ 0 ∷ 10 ∷ 3 ∷ 3 ∷ 0 ∷ 4 ∷ 5 ∷ 4 ∷ 4 ∷ 7 ∷ 8 ∷ 0 ∷ [])
    × (shown (admitted two 7 3 (Ok 1)) ≡ 103 ∷ 10 ∷ 2 ∷ 3 ∷ 0 ∷ 4 ∷ 5 ∷ 4 ∷ 4 ∷ [])
    × (shown (admitted two 7 2 (Ok 2147483648)) ≡ 103 ∷ 10 ∷ 2 ∷ 3 ∷ 0 ∷ 4 ∷ 5 ∷ 4 ∷ 4 ∷ [])
    -- each number before the next: 100, 101, 102, 104, the checker's, 103
    × (shown (admitted two 16 2000 broken) ≡ 100 ∷ 10 ∷ 2 ∷ 3 ∷ 0 ∷ 4 ∷ 5 ∷ 4 ∷ 4 ∷ [])
    × (shown (admitted (record { length = 0; count = 2; slots = two.slots }) 5 2000 broken) ≡ 101 ∷ 0 ∷ 2 ∷ 3 ∷ 0 ∷ 4 ∷ 5 ∷ 4 ∷ 4 ∷ [])
    × (shown (admitted (record { length = 7; count = 2; slots = two.slots }) 7 2000 broken) ≡ 102 ∷ 7 ∷ 2 ∷ 3 ∷ 0 ∷ 4 ∷ 5 ∷ 4 ∷ 4 ∷ [])
    × (shown (admitted two 7 1001 (Ok 5)) ≡ 104 ∷ 10 ∷ 2 ∷ 3 ∷ 0 ∷ 4 ∷ 5 ∷ 4 ∷ 4 ∷ [])
    × (shown (admitted two 7 2 broken) ≡ 31 ∷ 10 ∷ 2 ∷ 3 ∷ 0 ∷ 4 ∷ 5 ∷ 4 ∷ 4 ∷ [])
    -- a release closes the gap, and nobody is released from a free place
    × (shown (released two 3) ≡ 0 ∷ 10 ∷ 1 ∷ 5 ∷ 0 ∷ 4 ∷ [])
    × (shown (released two 7) ≡ 101 ∷ 10 ∷ 2 ∷ 3 ∷ 0 ∷ 4 ∷ 5 ∷ 4 ∷ 4 ∷ [])
unfolding total holds others laid_from end_to_end apart laid_within well_formed frame_of first_of before_check on_need admitted before_release released slot_numbers
worked = (refl, refl, refl, refl, refl, refl, refl, refl, refl, refl, refl)
