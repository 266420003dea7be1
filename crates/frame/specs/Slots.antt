-- docs/ADMISSION.md, "The record": slots lie end to end from tick 0, in order of admission, within the frame.
use Rattle.std.specs.Prelude.{ℕ, ◌+◌, ◌-◌, Bool, true, false, not, cond, ◌&&◌, ◌||◌, List, [], ◌∷◌, ◌++◌, leb, ltb, eqb, length, get_or, take, replicate}
use Rattle.frame.specs.declared.Slot.{Slot}
use Rattle.frame.specs.declared.Frame.{Frame}

-- The places of a core.
abbrev pub places : ℕ
places = 16

-- The slots that are held: the first `count` of the record's.
abbrev pub held : Frame → List Slot
held f = take f.count f.slots

-- The ticks of all slots together.
unfoldable pub total : List Slot → ℕ
total [] = 0
total (s ∷ rest) = s.length + total rest

-- Whether a slot is at this place.
unfoldable pub holds : ℕ → List Slot → Bool
holds place [] = false
holds place (s ∷ rest) = eqb s.place place || holds place rest

-- Those of a list that are at another place.
module _ {A : Type 0} (place_of : A → ℕ) where
  unfoldable pub others : ℕ → List A → List A
  others place [] = []
  others place (x ∷ rest) = cond (eqb (place_of x) place) (others place rest) (x ∷ others place rest)

abbrev pub without : ℕ → List Slot → List Slot
without = others (λ s. s.place)

-- The slots of the same places and lengths that lie end to end from a tick on.
unfoldable pub laid_from : ℕ → List Slot → List Slot
laid_from tick [] = []
laid_from tick (s ∷ rest) = record { place = s.place; first = tick; length = s.length } ∷ laid_from (tick + s.length) rest

-- Whether slots lie end to end from a tick on.
unfoldable pub end_to_end : ℕ → List Slot → Bool
end_to_end tick [] = true
end_to_end tick (s ∷ rest) = eqb s.first tick && end_to_end (tick + s.length) rest

-- Whether each is at one of n places, and no two at the same.
unfoldable pub apart : ℕ → List Slot → Bool
apart n [] = true
apart n (s ∷ rest) = ltb s.place n && not (holds s.place rest) && apart n rest

-- Whether slots lie end to end from a tick on and end by another one, each at a place of its own.
unfoldable pub laid_within : ℕ → ℕ → List Slot → Bool
laid_within end tick slots = end_to_end tick slots && leb (tick + total slots) end && apart places slots

-- 102, unless: the frame has 1 to 1,000,000 ticks, there are at most 16 slots, and they lie end to end from tick 0 within the frame, each
-- at a place of its own.
unfoldable pub well_formed : Frame → Bool
well_formed f = leb 1 f.length && leb f.length 1000000 && leb f.count places && laid_within f.length 0 (held f)

-- The record of a frame with these slots; past them it is 0.
abbrev pub no_slot : Slot
no_slot = record { place = 0; first = 0; length = 0 }

unfoldable pub frame_of : ℕ → List Slot → Frame
frame_of n slots = record { length = n; count = length slots; slots = slots ++ replicate (places - length slots) no_slot }

-- A bare frame has no slots.
abbrev pub bare : ℕ → Frame
bare n = frame_of n []

-- The slot that was added last.
abbrev pub last_slot : Frame → Slot
last_slot f = get_or f.slots (f.count - 1) no_slot

-- The ticks after the last slot; a malformed record has none.
unfoldable pub left_over : Frame → ℕ
left_over f = cond (well_formed f) (f.length - total (held f)) 0
