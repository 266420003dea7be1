-- Numbers whose bits are given by a test of their places (`bits_where`): the bits are the tests.
use Prim.Native.Nat.{ℕ, zero, suc, ◌+◌, ◌-◌, ◌*◌, ◌/◌, ◌%◌, ◌^◌, ◌≤◌, ◌<◌}
use mathlib.Core.Bool.{Bool, true, false, cond}
use mathlib.Core.Path.{◌≡◌, refl, sym, ◌∙◌, ap, ap₂}
use native.Mathlib.Nat.{add-zero, add-suc, pow-suc}
use native.Mathlib.Omega.{arith}
use lib.Dec.{eqb}
use lib.Pow.{high}
use Rattle.states.specs.Sets.{bits_where}
use Rattle.states.proofs.Bits.{bit, bit_zero, bit_suc}

-- A digit that is 1 where a test holds.
digit_is : (b : Bool) → eqb (cond b 1 0) 1 ≡ b
digit_is true = refl
digit_is false = refl

digit_below : (b : Bool) → cond {A = ℕ} b 1 0 < 2
digit_below true = omega arith
digit_below false = omega arith

pub where_below : (w : ℕ) (p : ℕ → Bool) → bits_where w p < 2 ^ w
unfolding bits_where
where_below zero p = omega arith
where_below (suc w) p = omega (arith, pow-suc 2 w, where_below w p, digit_below (p w))

-- Bit s of the number, the lowest first, is the test of the place that has s places after it.
pub where_bit : (w : ℕ) (p : ℕ → Bool) (s : ℕ) → s < w → bit (bits_where w p) s ≡ p (w - 1 - s)
unfolding bits_where
where_bit zero p s l = absurd (omega arith)
where_bit (suc w) p zero l =
    let digit : (bits_where w p * 2 + cond (p w) 1 0) % 2 ≡ cond (p w) 1 0 = omega (arith, digit_below (p w)) in
    let last : suc w - 1 - 0 ≡ w = omega arith in
    rw last (bit_zero (bits_where w p * 2 + cond (p w) 1 0) ∙ ap (λ d. eqb d 1) digit ∙ digit_is (p w))
where_bit (suc w) p (suc s) l =
    let half : (bits_where w p * 2 + cond (p w) 1 0) / 2 ≡ bits_where w p = omega (arith, digit_below (p w)) in
    let place : suc w - 1 - suc s ≡ w - 1 - s = omega arith in
    rw place (bit_suc (bits_where w p * 2 + cond (p w) 1 0) s ∙ ap (λ x. bit x s) half ∙ where_bit w p s (omega arith))

-- And so the test of place j is a bit.
pub where_place : (w : ℕ) (p : ℕ → Bool) (j : ℕ) → j < w → bit (bits_where w p) (w - 1 - j) ≡ p j
where_place w p j l =
    let place : w - 1 - (w - 1 - j) ≡ j = omega arith in
    rw place at (where_bit w p (w - 1 - j) (omega arith))

-- Tests that agree give one number, and no others give it.
pub where_same : (w : ℕ) (p q : ℕ → Bool) → ((j : ℕ) → j < w → p j ≡ q j) → bits_where w p ≡ bits_where w q
unfolding bits_where
where_same zero p q same = refl
where_same (suc w) p q same =
    ap₂ (λ v b. v * 2 + cond b 1 0) (where_same w p q (λ j l. same j (omega arith))) (same w (omega arith))

pub where_alike : (w : ℕ) (p q : ℕ → Bool) → bits_where w p ≡ bits_where w q → (j : ℕ) → j < w → p j ≡ q j
where_alike w p q e j l = sym (where_place w p j l) ∙ ap (λ v. bit v (w - 1 - j)) e ∙ where_place w q j l

-- The first a bits, and then b bits more.
pub where_join : (p : ℕ → Bool) (a b : ℕ) → bits_where (a + b) p ≡ bits_where a p * 2 ^ b + bits_where b (λ j. p (a + j))
unfolding bits_where
where_join p a zero = rw (add-zero a) (omega arith)
where_join p a (suc b) = rw (add-suc a b, pow-suc 2 b) (omega (arith, where_join p a b))

-- The first a of w bits.
pub where_first : (p : ℕ → Bool) (a w : ℕ) → a ≤ w → bits_where w p / 2 ^ (w - a) ≡ bits_where a p
where_first p a w most =
    let whole : w ≡ a + (w - a) = omega arith in
    ap (λ n. bits_where n p / 2 ^ (w - a)) whole ∙ ap (λ x. x / 2 ^ (w - a)) (where_join p a (w - a)) ∙ high (bits_where a p) (w - a) (where_below (w - a) _)
