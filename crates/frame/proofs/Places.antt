-- Places of their own: as one guest more comes or one goes, and that n places have at most n guests.
use Prim.Native.Nat.{ℕ, zero, suc, ◌+◌, ◌≤◌, ◌<◌}
use native.Mathlib.Omega.{arith}
use mathlib.Core.Bool.{Bool, true, false, not, ◌&&◌, ◌||◌, true≢false}
use mathlib.Core.List.{List, [], ◌∷◌, ◌++◌}
use mathlib.Core.Path.{◌≡◌, refl, sym, ap, subst}
use borrow.Author.Tests.{eqb-true, eqb-false, ne_eqb, lt-ltb, ltb-true, not-true}
use lib.Dec.{ltb, eqb}
use lib.ListN.{length}
use Rattle.states.proofs.Search.{and_left, and_right, and_both, or_none}
use Rattle.frame.specs.declared.Slot.{Slot}
use Rattle.frame.proofs.Others.{others_cases}
use Rattle.frame.specs.Slots.{total, holds, others, without, apart}

-- What the three parts of `apart` say of the first slot and of the rest.
module _ (n : ℕ) (s : Slot) (rest : List Slot) (h : apart n (s ∷ rest) ≡ true) where
  two : (ltb s.place n && not (holds s.place rest)) ≡ true
  unfolding apart
  two = and_left (ltb s.place n && not (holds s.place rest)) (apart n rest) h

  pub first_below : s.place < n
  first_below = ltb-true s.place n (and_left (ltb s.place n) _ two)

  pub first_alone : holds s.place rest ≡ false
  first_alone = not-true (holds s.place rest) (and_right (ltb s.place n) _ two)

  pub rest_apart : apart n rest ≡ true
  unfolding apart
  rest_apart = and_right (ltb s.place n && not (holds s.place rest)) (apart n rest) h

pub apart_cons : (n : ℕ) (s : Slot) (rest : List Slot) → s.place < n → holds s.place rest ≡ false → apart n rest ≡ true → apart n (s ∷ rest) ≡ true
unfolding apart
apart_cons n s rest below alone more = and_both _ _ (and_both _ _ (lt-ltb s.place n below) (ap not alone)) more

pub or_neither : (a b : Bool) → (a || b) ≡ false → (a ≡ false) × (b ≡ false)
or_neither true b e = absurd (true≢false e)
or_neither false b e = (refl, e)

-- A place that no slot is at.
module _ (place : ℕ) where
  pub free_cons : (x : Slot) (xs : List Slot) → eqb x.place place ≡ false → holds place xs ≡ false → holds place (x ∷ xs) ≡ false
  unfolding holds
  free_cons x xs other more = or_none (eqb x.place place) (holds place xs) other more

  pub free_both : (x : Slot) (xs : List Slot) → holds place (x ∷ xs) ≡ false → (eqb x.place place ≡ false) × (holds place xs ≡ false)
  unfolding holds
  free_both x xs h = or_neither (eqb x.place place) (holds place xs) h

  -- It is free still when a guest comes at another place, and when guests go.
  free_more : (xs : List Slot) (s : Slot) → holds place xs ≡ false → eqb s.place place ≡ false → holds place (xs ++ (s ∷ [])) ≡ false
  free_more [] s h other = free_cons s [] other h
  free_more (x ∷ xs) s h other = free_cons x (xs ++ (s ∷ [])) (free_both x xs h).0 (free_more xs s (free_both x xs h).1 other)

  free_less : (gone : ℕ) (xs : List Slot) → holds place xs ≡ false → holds place (without gone xs) ≡ false
  unfolding others
  free_less gone [] h = h
  free_less gone (x ∷ xs) h =
      let rest = free_less gone xs (free_both x xs h).1 in
      others_cases (λ s. s.place) gone x xs (λ l. holds place l ≡ false) (λ e. rest) (λ e. free_cons x (without gone xs) (free_both x xs h).0 rest)

-- One guest more, at a place that was free.
pub apart_more : (n : ℕ) (xs : List Slot) (s : Slot) → apart n xs ≡ true → holds s.place xs ≡ false → s.place < n → apart n (xs ++ (s ∷ [])) ≡ true
apart_more n [] s h free below = apart_cons n s [] below free h
apart_more n (x ∷ xs) s h free below =
    let other : eqb s.place x.place ≡ false = ne_eqb s.place x.place (λ e. eqb-false x.place s.place (free_both s.place x xs free).0 (sym e)) in
    apart_cons n x (xs ++ (s ∷ [])) (first_below n x xs h) (free_more x.place xs s (first_alone n x xs h) other)
    (apart_more n xs s (rest_apart n x xs h) (free_both s.place x xs free).1 below)

-- Some guests fewer.
pub apart_less : (n gone : ℕ) (xs : List Slot) → apart n xs ≡ true → apart n (without gone xs) ≡ true
unfolding others
apart_less n gone [] h = h
apart_less n gone (x ∷ xs) h =
    let rest = apart_less n gone xs (rest_apart n x xs h) in
    others_cases (λ s. s.place) gone x xs (λ l. apart n l ≡ true) (λ e. rest)
    (λ e. apart_cons n x (without gone xs) (first_below n x xs h) (free_less x.place gone xs (first_alone n x xs h)) rest)

pub total_less : (gone : ℕ) (xs : List Slot) → total (without gone xs) ≤ total xs
unfolding total others
total_less gone [] = omega arith
total_less gone (x ∷ xs) =
    others_cases (λ s. s.place) gone x xs (λ l. total l ≤ x.length + total xs) (λ e. omega (arith, total_less gone xs)) (λ e. omega (arith, total_less gone xs))

-- A place that is not held has nothing to leave out.
pub without_free : (gone : ℕ) (xs : List Slot) → holds gone xs ≡ false → without gone xs ≡ xs
unfolding others
without_free gone [] h = refl
without_free gone (x ∷ xs) h =
    let both = free_both gone x xs h in
    rw both.0 (ap (λ ys. x ∷ ys) (without_free gone xs both.1))

-- Of guests at places of their own, at most one is at a place.
one_gone : (n gone : ℕ) (xs : List Slot) → apart n xs ≡ true → length xs ≤ suc (length (without gone xs))
unfolding others
one_gone n gone [] h = omega arith
one_gone n gone (x ∷ xs) h =
    others_cases (λ s. s.place) gone x xs (λ l. suc (length xs) ≤ suc (length l)) left_out (λ e. omega (arith, one_gone n gone xs (rest_apart n x xs h)))
  where
    left_out : eqb x.place gone ≡ true → suc (length xs) ≤ suc (length (without gone xs))
    left_out e =
        let free : holds gone xs ≡ false = subst (λ p. holds p xs ≡ false) (eqb-true x.place gone e) (first_alone n x xs h) in
        rw (without_free gone xs free) (omega arith)

-- Without the last place all are at the places before it.
lower : (n : ℕ) (xs : List Slot) → apart (suc n) xs ≡ true → apart n (without n xs) ≡ true
unfolding others apart
lower n [] h = refl
lower n (x ∷ xs) h =
    let rest = lower n xs (rest_apart (suc n) x xs h) in
    others_cases (λ s. s.place) n x xs (λ l. apart n l ≡ true) (λ e. rest)
    (λ e. apart_cons n x (without n xs) (omega (arith, first_below (suc n) x xs h, eqb-false x.place n e))
    (free_less x.place n xs (first_alone (suc n) x xs h)) rest)

-- n places have at most n guests.
pub few : (n : ℕ) (xs : List Slot) → apart n xs ≡ true → length xs ≤ n
few zero [] h = omega arith
few zero (x ∷ xs) h = absurd (omega (arith, first_below zero x xs h))
few (suc n) xs h = omega (arith, one_gone (suc n) n xs h, few n (without n xs) (lower n xs h))
