-- Arrays of structs: their length where one is in a struct, and what `from_fn` makes.
use Prim.Native.Nat.{ℕ, zero, suc, ◌+◌, ◌≤◌, ◌<◌}
use native.Mathlib.Numerals.{add-one}
use native.Mathlib.Omega.{arith}
use mathlib.Core.Bool.{Bool, true, false}
use mathlib.Core.List.{List, [], ◌∷◌, ◌++◌, map}
use mathlib.Core.Path.{◌≡◌, refl, sym, ap, ◌∙◌, subst}
use denote.Param.Members.{Mut}
use borrow.Author.Tests.{ltb-true, ltb-false}
use lib.Dec.{ltb}
use lib.ListN.{length, get_or, length-map}
use Rattle.std.specs.Fn.{Called}
use Rattle.std.specs.Array.{IsFromFnResultFrom, IsFromFnResult}
use Rattle.std.specs.List.{range_with_len}
use Rattle.std.proofs.lemmas.List.FromFn.{fill_by_all, map-range_with_len_more}
use Rattle.frame.specs.Lent.{slot_in, slots_in}

-- What the prover is handed speaks of the machine's values of its elements.
pub length_of_mapped : (X Y : Type 0) (f : X → Y) (l : List X) (n : ℕ) → length (map f l) ≡ n → length l ≡ n
length_of_mapped X Y f l n e = sym (length-map l f) ∙ e

-- The closure stays as it is, and answers h at each index.
module _ {F B : Type 0} {g : Mut F (ℕ × Unit {0}) B} (f : F) (h : ℕ → B) (says : (i : ℕ) (y : B) (q : F) → Called g f (i, tt) y q → (q ≡ f) × (y ≡ h i)) where
  each_made : (ys : List B) (n i : ℕ) → IsFromFnResultFrom g f ys i n → (k : ℕ) (d : B) → i ≤ k → k < i + n → get_or ys k d ≡ h k
  each_made ys zero i made k d least most = absurd (omega arith)
  each_made ys (suc n) i made k d least most =
      let said = says i made.1 made.0 made.3 in
      by said (ltb i k) refl (λ past.
      each_made ys n (i + 1) (subst (λ p. IsFromFnResultFrom g p ys (i + 1) n) said.0 made.4) k d (omega (arith, past)) (omega (arith, most)))
    where
      by : (made.0 ≡ f) × (made.1 ≡ h i) → (b : Bool) → ltb i k ≡ b → (i < k → get_or ys k d ≡ h k) → get_or ys k d ≡ h k
      by said true t later = later (ltb-true i k t)
      by said false t later =
          let past = ltb-false i k t in
          let here : k ≡ i = omega (arith, past, least) in
          ap (λ j. get_or ys j d) here ∙ made.2.1 d ∙ said.1 ∙ ap h (sym here)

  pub made_of : (ys : List B) (n : ℕ) (d : B) → IsFromFnResult g f ys n → ys ≡ map h (range_with_len 0 n)
  made_of ys n d made = fill_by_all h ys n d made.long (λ k under. each_made ys n 0 made.each k d (omega arith) (omega arith))

pub slots_mapped : (numbers : List ℕ) (n : ℕ) → map (slot_in numbers) (range_with_len 0 n) ≡ slots_in numbers n
unfolding slots_in
slots_mapped numbers zero = refl
slots_mapped numbers (suc n) =
    ap (λ k. map (slot_in numbers) (range_with_len 0 k)) (sym (add-one n)) ∙ map-range_with_len_more (slot_in numbers) 0 n n (omega arith)
    ∙ ap (λ l. l ++ (slot_in numbers n ∷ [])) (slots_mapped numbers n)
