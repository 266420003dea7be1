-- Slots that are laid end to end: places and lengths stay, and what lies end to end already stays as it is.
use Prim.Native.Nat.{ℕ, suc, ◌+◌}
use native.Mathlib.Nat.{add_assoc, add-zero}
use native.Mathlib.Omega.{arith}
use mathlib.Core.Bool.{Bool, true, false, not, cond, ◌&&◌, ◌||◌}
use mathlib.Core.List.{List, [], ◌∷◌, ◌++◌}
use mathlib.Core.Path.{◌≡◌, refl, sym, ap, ap₂, ◌∙◌}
use borrow.Author.Tests.{eq-eqb, eqb-true}
use lib.Dec.{ltb, eqb}
use lib.ListN.{length}
use Rattle.states.proofs.Search.{and_left, and_right, and_both}
use Rattle.frame.specs.declared.Slot.{Slot}
use Rattle.frame.specs.Slots.{total, holds, others, without, laid_from, end_to_end, apart}

pub total_append : (xs ys : List Slot) → total (xs ++ ys) ≡ total xs + total ys
unfolding total
total_append [] ys = omega arith
total_append (s ∷ rest) ys = omega (arith, total_append rest ys)

pub total_laid : (tick : ℕ) (xs : List Slot) → total (laid_from tick xs) ≡ total xs
unfolding total laid_from
total_laid tick [] = refl
total_laid tick (s ∷ rest) = ap (λ n. s.length + n) (total_laid (tick + s.length) rest)

pub length_laid : (tick : ℕ) (xs : List Slot) → length (laid_from tick xs) ≡ length xs
unfolding laid_from
length_laid tick [] = refl
length_laid tick (s ∷ rest) = ap suc (length_laid (tick + s.length) rest)

pub holds_laid : (place tick : ℕ) (xs : List Slot) → holds place (laid_from tick xs) ≡ holds place xs
unfolding holds laid_from
holds_laid place tick [] = refl
holds_laid place tick (s ∷ rest) = ap (λ b. eqb s.place place || b) (holds_laid place (tick + s.length) rest)

pub apart_laid : (n tick : ℕ) (xs : List Slot) → apart n (laid_from tick xs) ≡ apart n xs
unfolding apart laid_from
apart_laid n tick [] = refl
apart_laid n tick (s ∷ rest) =
    ap₂ (λ b c. ltb s.place n && not b && c) (holds_laid s.place (tick + s.length) rest) (apart_laid n (tick + s.length) rest)

-- What is laid lies end to end, and what lies end to end is laid.
pub laid_end : (tick : ℕ) (xs : List Slot) → end_to_end tick (laid_from tick xs) ≡ true
unfolding end_to_end laid_from
laid_end tick [] = refl
laid_end tick (s ∷ rest) = and_both _ _ (eq-eqb tick tick refl) (laid_end (tick + s.length) rest)

pub end_laid : (tick : ℕ) (xs : List Slot) → end_to_end tick xs ≡ true → laid_from tick xs ≡ xs
unfolding end_to_end laid_from
end_laid tick [] h = refl
end_laid tick (s ∷ rest) h =
    ap₂ (λ (first : ℕ) (more : List Slot). record { place = s.place; first = first; length = s.length } ∷ more)
    (sym (eqb-true s.first tick (and_left (eqb s.first tick) _ h)))
    (end_laid (tick + s.length) rest (and_right (eqb s.first tick) _ h))

-- Slots that are laid twice lie as if laid once, also if those at a place are left out in between.
pub laid_again : (tick former : ℕ) (xs : List Slot) → laid_from tick (laid_from former xs) ≡ laid_from tick xs
unfolding laid_from
laid_again tick former [] = refl
laid_again tick former (s ∷ rest) =
    ap (λ more. record { place = s.place; first = tick; length = s.length } ∷ more) (laid_again (tick + s.length) (former + s.length) rest)

pub laid_without : (place tick former : ℕ) (xs : List Slot) → laid_from tick (without place (laid_from former xs)) ≡ laid_from tick (without place xs)
unfolding laid_from others
laid_without place tick former [] = refl
laid_without place tick former (s ∷ rest) = by (eqb s.place place) (λ from. laid_without place from (former + s.length) rest)
  where
    by : (b : Bool)
        → ((from : ℕ) → laid_from from (without place (laid_from (former + s.length) rest)) ≡ laid_from from (without place rest))
        → laid_from tick (cond b (without place (laid_from (former + s.length) rest))
        (record { place = s.place; first = former; length = s.length } ∷ without place (laid_from (former + s.length) rest)))
        ≡ laid_from tick (cond b (without place rest) (s ∷ without place rest))
    by true more = more tick
    by false more = ap (λ ys. record { place = s.place; first = tick; length = s.length } ∷ ys) (more (tick + s.length))

-- Slots after others begin where these end.
pub laid_append : (tick : ℕ) (xs ys : List Slot) → laid_from tick (xs ++ ys) ≡ laid_from tick xs ++ laid_from (tick + total xs) ys
unfolding laid_from total
laid_append tick [] ys = ap (λ n. laid_from n ys) (sym (add-zero tick))
laid_append tick (s ∷ rest) ys =
    ap (λ more. record { place = s.place; first = tick; length = s.length } ∷ more)
    (laid_append (tick + s.length) rest ys
    ∙ ap (λ n. laid_from (tick + s.length) rest ++ laid_from n ys) (add_assoc tick s.length (total rest)))
