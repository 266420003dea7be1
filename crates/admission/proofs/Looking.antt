-- The slots from an index on: what a look at one of them adds.
use Prim.Native.Nat.{ℕ, ◌+◌, ◌-◌, ◌≤◌, ◌<◌, min}
use native.Mathlib.Omega.{arith}
use mathlib.Core.Bool.{Bool, true, false, ◌&&◌, ◌||◌, true≢false}
use mathlib.Core.List.{List, [], ◌∷◌}
use mathlib.Core.Path.{◌≡◌, refl, sym, ap, ◌∙◌}
use borrow.Author.Tests.{ltb-true, ltb-false, leb-true, le-leb, lt-ltb, le-ltb}
use lib.Dec.{leb, ltb, eqb}
use lib.ListN.{length, take}
use lib.Seq.{take_all}
use Rattle.std.specs.List.{list_any}
use Rattle.states.proofs.Search.{and_left, and_right, and_both, or_none, bool_ext}
use Rattle.frame.specs.declared.Slot.{Slot}
use Rattle.frame.specs.declared.Frame.{Frame}
use Rattle.frame.specs.Slots.{places, held, total, holds, end_to_end, apart, laid_within, well_formed}
use Rattle.std.specs.Prelude.{Option, Some, is_some, unwrap_or}
use Rattle.admission.specs.Refinement.{laid_found}
use Rattle.frame.proofs.Places.{first_below, first_alone, rest_apart, apart_cons, or_neither}
use Rattle.frame.proofs.Frames.{well}

-- A count past the slots names all of them.
pub take_shown : (slots : List Slot) (count : ℕ) → take (min (length slots) count) slots ≡ take count slots
take_shown slots count = by (ltb count (length slots)) refl
  where
    by : (b : Bool) → ltb count (length slots) ≡ b → take (min (length slots) count) slots ≡ take count slots
    by true t = let h : min (length slots) count ≡ count = omega (arith, ltb-true count (length slots) t) in rw h refl
    by false t =
        let most = ltb-false count (length slots) t in
        let h : min (length slots) count ≡ length slots = omega arith in
        ap (λ k. take k slots) h ∙ take_all (length slots) slots (omega arith) ∙ sym (take_all count slots (omega arith))

-- A slot is at the place if any is.
pub any_holds : (place : ℕ) (slots : List Slot) → list_any (λ s. eqb s.place place) slots ≡ holds place slots
unfolding holds
any_holds place [] = refl
any_holds place (s ∷ rest) = ap (λ b. eqb s.place place || b) (any_holds place rest)

-- A slot ends within the frame if its length is at most what is left of it.
pub room_left : (tick long last : ℕ) → tick ≤ last → leb long (last - tick) ≡ leb (tick + long) last
room_left tick long last inside =
    bool_ext _ _ (λ h. le-leb (tick + long) last (omega (arith, leb-true long (last - tick) h)))
    (λ h. le-leb long (last - tick) (omega (arith, leb-true (tick + long) last h)))

refuted : {b : Bool} → (b ≡ true → ⊥) → b ≡ false
refuted {b} h = bool_ext b false (λ e. absurd (h e)) (λ e. absurd (true≢false (sym e)))

-- Where there are no slots left, they lie end to end.
pub laid_none : (last tick : ℕ) → tick ≤ last → laid_within last tick [] ≡ true
unfolding laid_within end_to_end total apart
laid_none last tick inside = and_both _ _ (le-leb (tick + 0) last (omega arith)) refl

-- The next slot of those that lie end to end begins at the tick, ends within the frame and is at a place of its own; and so do the rest.
abbrev pub Lies : ℕ → ℕ → Slot → Bool
Lies last tick s = eqb s.first tick && leb (tick + s.length) last && ltb s.place places

module _ (last tick : ℕ) (s : Slot) (rest : List Slot) where
  laid_parts : laid_within last tick (s ∷ rest) ≡ true → (Lies last tick s ≡ true) × (holds s.place rest ≡ false) × (laid_within last (tick + s.length) rest ≡ true)
  unfolding laid_within end_to_end total
  laid_parts h =
      let ends = eqb s.first tick && end_to_end (tick + s.length) rest in
      let fits = leb (tick + (s.length + total rest)) last in
      let own = and_right (ends && fits) (apart places (s ∷ rest)) h in
      let both = and_left (ends && fits) (apart places (s ∷ rest)) h in
      let first = and_left ends fits both in
      let most = leb-true (tick + (s.length + total rest)) last (and_right ends fits both) in (
        and_both _ _ (and_both _ _ (and_left (eqb s.first tick) _ first) (le-leb (tick + s.length) last (omega arith)))
            (lt-ltb s.place places (first_below places s rest own)),
        first_alone places s rest own,
        and_both _ _ (and_both _ _ (and_right (eqb s.first tick) _ first) (le-leb (tick + s.length + total rest) last (omega arith)))
            (rest_apart places s rest own),
      )

  -- If it does, the rest decides.
  pub laid_on : Lies last tick s ≡ true → holds s.place rest ≡ false → laid_within last tick (s ∷ rest) ≡ laid_within last (tick + s.length) rest
  unfolding laid_within end_to_end total
  laid_on here alone = bool_ext _ _ (λ h. (laid_parts h).2) back
    where
      back : laid_within last (tick + s.length) rest ≡ true → laid_within last tick (s ∷ rest) ≡ true
      back h =
          let ends = end_to_end (tick + s.length) rest in
          let fits = leb (tick + s.length + total rest) last in
          let both = and_left (ends && fits) (apart places rest) h in
          let begins = and_left (eqb s.first tick && leb (tick + s.length) last) _ here in
          let below = ltb-true s.place places (and_right (eqb s.first tick && leb (tick + s.length) last) _ here) in
          let most = leb-true (tick + s.length + total rest) last (and_right ends fits both) in
          and_both _ _
          (and_both _ _ (and_both _ _ (and_left (eqb s.first tick) _ begins) (and_left ends fits both)) (le-leb (tick + (s.length + total rest)) last (omega arith)))
          (apart_cons places s rest below alone (and_right (ends && fits) _ h))

  -- If not, the slots do not lie end to end.
  pub laid_not : Lies last tick s ≡ false → laid_within last tick (s ∷ rest) ≡ false
  laid_not h = refuted (λ e. true≢false (sym (laid_parts e).0 ∙ h))

  pub laid_twice : holds s.place rest ≡ true → laid_within last tick (s ∷ rest) ≡ false
  laid_twice h = refuted (λ e. true≢false (sym h ∙ (laid_parts e).1))

-- A well-formed record has a length and a count in range, and then the slots decide.
module _ (f : Frame) where
  pub ill_length : (ltb f.length 1 || ltb 1000000 f.length) ≡ true → well_formed f ≡ false
  ill_length out =
      refuted (λ e.
      let w = well f e in
      true≢false (sym out ∙ or_none _ _ (le-ltb f.length 1 w.length_least) (le-ltb 1000000 f.length w.length_most)))

  pub ill_count : places < f.count → well_formed f ≡ false
  ill_count over = refuted (λ e. absurd (omega (arith, (well f e).few_slots)))

  pub by_slots : (ltb f.length 1 || ltb 1000000 f.length) ≡ false → f.count ≤ places → well_formed f ≡ laid_within f.length 0 (held f)
  unfolding well_formed
  by_slots inside few =
      let h = or_neither (ltb f.length 1) (ltb 1000000 f.length) inside in
      rw (le-leb 1 f.length (ltb-false f.length 1 h.0), le-leb f.length 1000000 (ltb-false 1000000 f.length h.1), le-leb f.count places few) refl

-- What the look at a record found: an end, if it is well-formed, which is where the last slot ends.
pub found_some : (b : Bool) (n : ℕ) (x : Option ℕ) → x ≡ laid_found b n → is_some x ≡ b
found_some true n x is = ap is_some is
found_some false n x is = ap is_some is

pub found_end : (b : Bool) (n end : ℕ) (x : Option ℕ) → x ≡ laid_found b n → x ≡ Some end → (b ≡ true) × (end ≡ n)
found_end true n end x is e = (refl, ap (λ o. unwrap_or o 0) (sym e ∙ is))
found_end false n end x is e = absurd (true≢false (ap is_some (sym e ∙ is)))
