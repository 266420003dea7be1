-- The numbers of a record are read as that record: slot n is read from the numbers of the nth slot.
use Prim.Native.Nat.{ℕ, zero, suc, ◌+◌, ◌*◌, ◌≤◌, ◌<◌}
use native.Mathlib.Numerals.{add-one}
use native.Mathlib.Omega.{arith}
use mathlib.Core.List.{List, [], ◌∷◌, ◌++◌}
use mathlib.Core.Path.{◌≡◌, refl, sym, ap, ◌∙◌}
use borrow.Author.Tests.{eq-eqb}
use lib.ListN.{length, get_or, take, drop, length-append, length-take}
use lib.Seq.{take-suc, take_all, take_at, sets, sets-eq}
use Rattle.frame.specs.declared.Slot.{Slot}
use Rattle.frame.specs.declared.Frame.{Frame}
use Rattle.frame.specs.Slots.{no_slot}
use Rattle.frame.specs.Lent.{slot_in, slots_in, frame_in, slot_numbers, numbers_of}

pub length_numbers : (xs : List Slot) → length (slot_numbers xs) ≡ 3 * length xs
unfolding slot_numbers
length_numbers [] = refl
length_numbers (s ∷ rest) = omega (arith, length_numbers rest)

pub numbers_append : (xs ys : List Slot) → slot_numbers (xs ++ ys) ≡ slot_numbers xs ++ slot_numbers ys
unfolding slot_numbers
numbers_append [] ys = refl
numbers_append (s ∷ rest) ys = ap (λ l. s.place ∷ s.first ∷ s.length ∷ l) (numbers_append rest ys)

-- A run of stores after what is there already.
pub take_sets : (vs l : List ℕ) (i : ℕ) → i + length vs ≤ length l → take (i + length vs) (sets l i vs) ≡ take i l ++ vs
take_sets vs l i fits =
    ap (take (i + length vs)) (sets-eq vs l i fits)
    ∙ take_at (take i l ++ vs) (drop (i + length vs) l) (i + length vs) (simp (length-append, length-take) (omega arith))

-- Numbers that hold the first i slots hold one more after its three are stored.
pub numbers_next : (a b : ℕ) (slots : List Slot) (l : List ℕ) (i : ℕ) → i < length slots → 5 + 3 * i ≤ length l
    → take (2 + 3 * i) l ≡ a ∷ b ∷ slot_numbers (take i slots)
    → take (2 + 3 * (i + 1)) (sets l (2 + 3 * i) (slot_numbers (get_or slots i no_slot ∷ []))) ≡ a ∷ b ∷ slot_numbers (take (i + 1) slots)
unfolding slot_numbers
numbers_next a b slots l i under fits so =
    let next : 2 + 3 * (i + 1) ≡ 2 + 3 * i + 3 = omega arith in
    rw (next, take_sets (slot_numbers (get_or slots i no_slot ∷ [])) l (2 + 3 * i) (omega arith), so, add-one, take-suc slots i no_slot, numbers_append)

-- Slot n + 1 is slot n of the numbers after the first three.
later : (a b c : ℕ) (l : List ℕ) (n : ℕ) → slot_in (a ∷ b ∷ c ∷ l) (suc n) ≡ slot_in l n
later a b c l n =
    let at : (k : ℕ) → get_or (a ∷ b ∷ c ∷ l) (k + 3 * suc n) 0 ≡ get_or l (k + 3 * n) 0 =
    λ k. let e : k + 3 * suc n ≡ suc (suc (suc (k + 3 * n))) = omega arith in rw e in
    rw (at 2, at 3, at 4)

slot_at : (a b : ℕ) (xs : List Slot) (n : ℕ) → n < length xs → slot_in (a ∷ b ∷ slot_numbers xs) n ≡ get_or xs n no_slot
unfolding slot_numbers
slot_at a b [] n under = absurd (omega arith)
slot_at a b (s ∷ rest) zero under = refl
slot_at a b (s ∷ rest) (suc n) under =
    later a b s.place (s.first ∷ s.length ∷ slot_numbers rest) n ∙ slot_at s.first s.length rest n (omega arith)

slots_of : (a b : ℕ) (xs : List Slot) (n : ℕ) → n ≤ length xs → slots_in (a ∷ b ∷ slot_numbers xs) n ≡ take n xs
unfolding slots_in
slots_of a b xs zero few = refl
slots_of a b xs (suc n) few = rw (slots_of a b xs n (omega arith), slot_at a b xs n few) (sym (take-suc xs n no_slot few))

pub read_back : (f : Frame) → length f.slots ≡ 16 → frame_in (numbers_of f) ≡ f
unfolding frame_in numbers_of
read_back f all =
    let slots = slots_of f.length f.count f.slots 16 (omega arith) ∙ take_all 16 f.slots (omega arith) in
    rw (eq-eqb (length (numbers_of f)) 50 (omega (arith, length_numbers f.slots)), slots)
