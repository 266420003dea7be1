-- Those of a list that are at another place: the first is left out, or is kept before the others of the rest.
use Prim.Native.Nat.{ℕ, suc, ◌≤◌}
use native.Mathlib.Omega.{arith}
use mathlib.Core.Bool.{Bool, true, false, cond}
use mathlib.Core.List.{List, [], ◌∷◌}
use mathlib.Core.Path.{◌≡◌, refl}
use lib.Dec.{eqb}
use lib.ListN.{length}
use Rattle.frame.specs.Slots.{others}

module _ {A : Type 0} (place_of : A → ℕ) (place : ℕ) where
  pub others_cases : (x : A) (rest : List A) (P : List A → Type 0) → (eqb (place_of x) place ≡ true → P (others place_of place rest))
      → (eqb (place_of x) place ≡ false → P (x ∷ others place_of place rest)) → P (others place_of place (x ∷ rest))
  unfolding others
  others_cases x rest P gone kept = by (eqb (place_of x) place) refl
    where
      by : (b : Bool) → eqb (place_of x) place ≡ b → P (cond b (others place_of place rest) (x ∷ others place_of place rest))
      by true e = gone e
      by false e = kept e

  pub length_less : (xs : List A) → length (others place_of place xs) ≤ length xs
  unfolding others
  length_less [] = omega arith
  length_less (x ∷ xs) =
      others_cases x xs (λ l. length l ≤ suc (length xs)) (λ e. omega (arith, length_less xs)) (λ e. omega (arith, length_less xs))
