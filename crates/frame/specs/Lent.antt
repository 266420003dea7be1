-- docs/ADMISSION.md, "For hosts": the record as 50 numbers, the frame's length, the count of slots, and three for each slot.
use Rattle.std.specs.Prelude.{ℕ, zero, suc, ◌+◌, ◌-◌, ◌*◌, ◌/◌, min, cond, List, [], ◌∷◌, ◌++◌, eqb, length, get_or, is_ok}
use Rattle.frame.specs.declared.Slot.{Slot}
use Rattle.frame.specs.declared.Frame.{Frame}
use Rattle.frame.specs.declared.Outcome.{Outcome}
use Rattle.frame.specs.Slots.{places}

-- Slot i of the numbers: its place, its first tick and its length; 0 where there is no number.
abbrev pub slot_in : List ℕ → ℕ → Slot
slot_in numbers i = record {
  place = get_or numbers (2 + 3 * i) 0;
  first = get_or numbers (3 + 3 * i) 0;
  length = get_or numbers (4 + 3 * i) 0;
}

-- The first n slots of the numbers.
unfoldable pub slots_in : List ℕ → ℕ → List Slot
slots_in numbers zero = []
slots_in numbers (suc n) = slots_in numbers n ++ (slot_in numbers n ∷ [])

-- The record that numbers hold. If there are not 50, it has the slots that are there in full and no frame, so a call with it is turned away
-- with 102 if not before.
unfoldable pub frame_in : List ℕ → Frame
frame_in numbers =
    let whole = eqb (length numbers) 50 in
    record {
      length = cond whole (get_or numbers 0 0) 0;
      count = cond whole (get_or numbers 1 0) (min (get_or numbers 1 0) ((length numbers - 2) / 3));
      slots = slots_in numbers places;
    }

-- The numbers of a record.
unfoldable pub slot_numbers : List Slot → List ℕ
slot_numbers [] = []
slot_numbers (s ∷ rest) = s.place ∷ s.first ∷ s.length ∷ slot_numbers rest

unfoldable pub numbers_of : Frame → List ℕ
numbers_of f = f.length ∷ f.count ∷ slot_numbers f.slots

-- The numbers after a call: those of its record if it was done, and else as they were.
abbrev pub numbers_after : Outcome → List ℕ → List ℕ
numbers_after o numbers = cond (is_ok o.answer) (numbers_of o.frame) numbers
