-- The record of some slots, and what a well-formed record is.
use Prim.Native.Nat.{ℕ, suc, ◌+◌, ◌-◌, ◌≤◌, ◌<◌}
use native.Mathlib.Omega.{arith}
use mathlib.Core.Bool.{true, ◌&&◌}
use mathlib.Core.List.{List, [], ◌∷◌, ◌++◌}
use mathlib.Core.Path.{◌≡◌, sym, ap, ap₂, ◌∙◌}
use borrow.Author.Tests.{leb-true, le-leb}
use lib.Dec.{leb}
use lib.ListN.{length, get_or, set, replicate, length-append, length-replicate}
use lib.Seq.{take-append_seam, set-append_seam, append_snoc, get_or-append_seam}
use Rattle.states.proofs.Search.{and_left, and_right, and_both}
use Rattle.frame.specs.declared.Slot.{Slot}
use Rattle.frame.specs.declared.Frame.{Frame}
use Rattle.frame.specs.Slots.{places, held, total, laid_from, end_to_end, apart, laid_within, well_formed, no_slot, frame_of, last_slot}
use Rattle.frame.proofs.Laid.{total_laid, length_laid, apart_laid, laid_end}
use Rattle.frame.proofs.Places.{few}

-- The slots that it holds are these.
pub held_of : (n : ℕ) (xs : List Slot) → held (frame_of n xs) ≡ xs
unfolding frame_of
held_of n xs = take-append_seam xs (replicate (places - length xs) no_slot)

-- It has 16 slots.
pub whole_frame : (n : ℕ) (xs : List Slot) → length xs ≤ places → length (frame_of n xs).slots ≡ places
unfolding frame_of
whole_frame n xs few = length-append xs _ ∙ omega (arith, length-replicate (places - length xs) no_slot)

-- One slot more is stored after them.
pub frame_added : (n : ℕ) (xs : List Slot) (s : Slot) → length xs < places
    → record { length = n; count = length xs + 1; slots = set (xs ++ replicate (places - length xs) no_slot) (length xs) s } ≡ frame_of n (xs ++ (s ∷ []))
unfolding frame_of
frame_added n xs s room =
    let left = places - (length xs + 1) in
    let one_less : places - length xs ≡ suc left = omega arith in
    let longer : length (xs ++ (s ∷ [])) ≡ length xs + 1 = length-append xs (s ∷ []) in
    let stored : set (xs ++ replicate (places - length xs) no_slot) (length xs) s ≡ xs ++ (s ∷ []) ++ replicate left no_slot =
    ap (λ k. set (xs ++ replicate k no_slot) (length xs) s) one_less ∙ set-append_seam xs no_slot (replicate left no_slot) s
    ∙ sym (append_snoc xs s (replicate left no_slot)) in
    ap₂ (λ (count : ℕ) (slots : List Slot). record { length = n; count = count; slots = slots }) (sym longer)
    (stored ∙ ap (λ k. xs ++ (s ∷ []) ++ replicate (places - k) no_slot) (sym longer))

pub last_of : (n : ℕ) (xs : List Slot) (s : Slot) → last_slot (frame_of n (xs ++ (s ∷ []))) ≡ s
unfolding frame_of
last_of n xs s =
    let rest = replicate (places - length (xs ++ (s ∷ []))) no_slot in
    let at : length (xs ++ (s ∷ [])) - 1 ≡ length xs = omega (arith, length-append xs (s ∷ [])) in
    ap (λ k. get_or ((xs ++ (s ∷ [])) ++ rest) k no_slot) at ∙ ap (λ l. get_or l (length xs) no_slot) (append_snoc xs s rest)
    ∙ get_or-append_seam xs s rest no_slot

-- A well-formed record, part by part.
pub record Well (f : Frame) : Type 0 where
  pub length_least : 1 ≤ f.length
  pub length_most : f.length ≤ 1000000
  pub few_slots : f.count ≤ places
  pub end_to_end_lem : end_to_end 0 (held f) ≡ true
  pub within : total (held f) ≤ f.length
  pub own_places : apart places (held f) ≡ true

pub well : (f : Frame) → well_formed f ≡ true → Well f
unfolding well_formed laid_within
well f h =
    let laid = laid_within f.length 0 (held f) in
    let range = and_left (leb 1 f.length && leb f.length 1000000 && leb f.count places) laid h in
    let within = and_right (leb 1 f.length && leb f.length 1000000 && leb f.count places) laid h in
    let lengths = and_left (leb 1 f.length && leb f.length 1000000) (leb f.count places) range in
    let ends = end_to_end 0 (held f) in
    let fits = leb (0 + total (held f)) f.length in
    let both = and_left (ends && fits) (apart places (held f)) within in
    record {
      length_least = leb-true _ _ (and_left (leb 1 f.length) _ lengths);
      length_most = leb-true _ _ (and_right (leb 1 f.length) _ lengths);
      few_slots = leb-true _ _ (and_right (leb 1 f.length && leb f.length 1000000) _ range);
      end_to_end_lem = and_left ends fits both;
      within = omega (arith, leb-true (0 + total (held f)) f.length (and_right ends fits both));
      own_places = and_right (ends && fits) _ within;
    }

-- Guests at places of their own whose needs fit into the frame have a well-formed record.
pub well_of : (n : ℕ) (xs : List Slot) → 1 ≤ n → n ≤ 1000000 → total xs ≤ n → apart places xs ≡ true → well_formed (frame_of n (laid_from 0 xs)) ≡ true
unfolding well_formed laid_within frame_of
well_of n xs least most fits own =
    let laid = laid_from 0 xs in
    and_both _ _ (and_both _ _ (and_both _ _ (le-leb 1 n least) (le-leb n 1000000 most)) (le-leb (length laid) places (omega (arith, length_laid 0 xs, few places xs own))))
    (rw (held_of n laid) (and_both _ _ (and_both _ _ (laid_end 0 xs) (le-leb (0 + total laid) n (omega (arith, total_laid 0 xs)))) (apart_laid places 0 xs ∙ own)))
