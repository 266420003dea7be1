-- Laying slots again one by one: what the next slot adds.
use Prim.Native.Nat.{ℕ, ◌+◌, ◌≤◌, ◌<◌}
use native.Mathlib.Numerals.{add-one}
use native.Mathlib.Nat.{zero-add}
use native.Mathlib.Omega.{arith}
use mathlib.Core.Bool.{Bool, true, false, cond}
use mathlib.Core.List.{List, [], ◌∷◌, ◌++◌, append-nil}
use mathlib.Core.Path.{◌≡◌, refl, sym, ap, ◌∙◌, subst}
use lib.Dec.{eqb}
use lib.ListN.{length, get_or, take, drop, length-append, length-take, take-append-drop}
use lib.Seq.{take-suc}
use Rattle.frame.specs.declared.Slot.{Slot}
use Rattle.frame.specs.declared.Frame.{Frame}
use Rattle.frame.specs.Slots.{places, held, total, holds, others, without, laid_from, no_slot, frame_of}
use Rattle.frame.proofs.Laid.{total_append, length_laid, end_laid, laid_append}
use Rattle.frame.proofs.Others.{length_less}
use Rattle.frame.proofs.Places.{apart_more, total_less, without_free, few}
use Rattle.frame.proofs.Frames.{frame_added, Well}
use Rattle.admission.specs.Refinement.{added_to}

-- The last slot is left out or not.
without_last : (place : ℕ) (xs : List Slot) (s : Slot) → without place (xs ++ (s ∷ [])) ≡ without place xs ++ cond (eqb s.place place) [] (s ∷ [])
unfolding others
without_last place [] s = refl
without_last place (x ∷ xs) s = by (eqb x.place place) (without_last place xs s)
  where
    by : (b : Bool) → without place (xs ++ (s ∷ [])) ≡ without place xs ++ cond (eqb s.place place) [] (s ∷ [])
        → cond b (without place (xs ++ (s ∷ []))) (x ∷ without place (xs ++ (s ∷ [])))
        ≡ cond b (without place xs) (x ∷ without place xs) ++ cond (eqb s.place place) [] (s ∷ [])
    by true e = e
    by false e = ap (λ ys. x ∷ ys) e

-- The first slots have no more ticks than all.
total_front : (i : ℕ) (slots : List Slot) → total (take i slots) ≤ total slots
total_front i slots =
    let split : total slots ≡ total (take i slots) + total (drop i slots) =
    ap total (sym (take-append-drop i slots)) ∙ total_append (take i slots) (drop i slots) in
    omega arith

module _ (place : ℕ) (slots : List Slot) (i : ℕ) (there : i < length slots) where
  abbrev slot : Slot
  slot = get_or slots i no_slot

  abbrev kept : List Slot
  kept = without place (take i slots)

  take_next : take (i + 1) slots ≡ take i slots ++ (slot ∷ [])
  take_next = ap (λ k. take k slots) (add-one i) ∙ take-suc slots i no_slot there

  kept_next : without place (take (i + 1) slots) ≡ kept ++ cond (eqb slot.place place) [] (slot ∷ [])
  kept_next = ap (without place) take_next ∙ without_last place (take i slots) slot

  pub few_kept : length (laid_from 0 kept) ≤ i
  few_kept = omega (arith, length_laid 0 kept, length_less (λ s. s.place) place (take i slots), length-take i slots)

  -- The tick after the slot, and that it is within all slots together.
  pub total_next : (tick : ℕ) → tick ≡ total kept → tick + cond (eqb slot.place place) 0 slot.length ≡ total (without place (take (i + 1) slots))
  unfolding total
  total_next tick at = by (eqb slot.place place) kept_next
    where
      by : (b : Bool) → without place (take (i + 1) slots) ≡ kept ++ cond b [] (slot ∷ [])
          → tick + cond b 0 slot.length ≡ total (without place (take (i + 1) slots))
      by true e = omega (arith, ap total e, total_append kept [])
      by false e = omega (arith, ap total e, total_append kept (slot ∷ []))

  pub room_next : total kept + slot.length ≤ total slots
  unfolding total
  room_next = omega (arith, ap total take_next, total_append (take i slots) (slot ∷ []), total_less place (take i slots), total_front (i + 1) slots)

  -- The record with the slot, unless it is left out.
  pub laid_next : (n tick : ℕ) (f : Frame) → f ≡ frame_of n (laid_from 0 kept) → tick ≡ total kept → i < places
      → cond (eqb slot.place place) f (added_to f (record { place = slot.place; first = tick; length = slot.length }))
      ≡ frame_of n (laid_from 0 (without place (take (i + 1) slots)))
  unfolding frame_of laid_from
  laid_next n tick f is at few = rw (is, at) (by (eqb slot.place place) kept_next)
    where
      by : (b : Bool) → without place (take (i + 1) slots) ≡ kept ++ cond b [] (slot ∷ [])
          → cond b (frame_of n (laid_from 0 kept)) (added_to (frame_of n (laid_from 0 kept)) (record { place = slot.place; first = total kept; length = slot.length }))
          ≡ frame_of n (laid_from 0 (without place (take (i + 1) slots)))
      by true e = ap (λ l. frame_of n (laid_from 0 l)) (sym (e ∙ append-nil kept))
      by false e =
          frame_added n (laid_from 0 kept) _ (omega (arith, few_kept))
          ∙ ap (frame_of n) (sym (ap (laid_from 0) e ∙ laid_append 0 kept (slot ∷ []) ∙ ap (λ k. laid_from 0 kept ++ laid_from k (slot ∷ [])) (zero-add (total kept))))

-- A guest at a free place: nothing is left out, there is a slot for it, and it comes last.
module _ (f : Frame) (w : Well f) (place : ℕ) (free : holds place (held f) ≡ false) where
  as_it_was : laid_from 0 (without place (held f)) ≡ held f
  as_it_was = ap (laid_from 0) (without_free place (held f) free) ∙ end_laid 0 (held f) w.end_to_end_lem

  module _ (s : Slot) (there : s.place < places) (at : s.place ≡ place) where
    room_for : length (held f) < places
    room_for =
        omega (
          arith,
          length-append (held f) (s ∷ []),
          few places (held f ++ (s ∷ [])) (apart_more places (held f) s w.own_places (subst (λ p. holds p (held f) ≡ false) (sym at) free) there),
        )

    module _ (g : Frame) (is : g ≡ frame_of f.length (laid_from 0 (without place (held f)))) where
      kept_is : g ≡ frame_of f.length (held f)
      kept_is = is ∙ ap (frame_of f.length) as_it_was

      pub slot_left : g.count < places
      unfolding frame_of
      slot_left = rw (ap (λ x. x.count) kept_is) room_for

      pub comes_last : added_to g s ≡ frame_of f.length (held f ++ (s ∷ []))
      unfolding frame_of
      comes_last = ap (λ x. added_to x s) kept_is ∙ frame_added f.length (held f) s room_for
