-- The bits of a word in the other order. A step of swaps moves each bit as its mask says; where each bit ends after some steps
-- is computed, for all 64, and words with the same bits are equal.
use Prim.Native.Nat.{ℕ, suc, ◌+◌, ◌-◌, ◌*◌, ◌/◌, ◌%◌, ◌^◌, ◌<◌}
use mathlib.Core.Bool.{Bool, true, false, cond, not, ◌&&◌, ◌||◌, and-true, and-false, or-false, false≢true}
use mathlib.Core.List.{List, [], ◌∷◌}
use mathlib.Core.Path.{◌≡◌, refl, sym, ap, ◌∙◌}
use native.Mathlib.Nat.{mul_assoc, mod-lt}
use native.Mathlib.Omega.{arith}
use borrow.Author.Tests.{leb-true, leb-false, ltb-true, eqb-true}
use lib.Bits.{bit_and, bit_or, and_le_l, or_lt, shifted_even}
use lib.Dec.{leb, ltb, eqb}
use lib.Pow.{pow_pos, pow-add, shr-shr, shr_le, shl-shr, field, mod-mod-pow}
use Rattle.states.specs.Search.{all}
use Rattle.states.specs.Sets.{bits_where}
use Rattle.states.proofs.Search.{and_left, and_right, all_at}
use Rattle.states.proofs.Bits.{bit, and_bits, or_bits, bits_ext}
use Rattle.states.proofs.Where.{where_below, where_bit}

-- A word of 64 bits keeps them.
low_bits : (x s : ℕ) → s < 64 → x % 2 ^ 64 / 2 ^ s % 2 ≡ x / 2 ^ s % 2
low_bits x s under =
    let whole : 64 ≡ 64 - s + s = omega arith in
    let rest : 64 - s ≡ 63 - s + 1 = omega arith in
    ap (λ e. x % 2 ^ e / 2 ^ s % 2) whole ∙ ap (λ y. y % 2) (field x (64 - s) s)
    ∙ ap (λ e. x / 2 ^ s % 2 ^ e % 2) rest ∙ mod-mod-pow (x / 2 ^ s) (63 - s) 1

-- A shift to the left moves the bits up and leaves 0 below them.
shl_bit : (x by s : ℕ) → s < 64 → bit (x * 2 ^ by % 2 ^ 64) s ≡ (leb by s && bit x (s - by))
shl_bit x by s under = ap (λ d. eqb d 1) (low_bits (x * 2 ^ by) s under) ∙ place (leb by s) refl
  where
    place : (b : Bool) → leb by s ≡ b → bit (x * 2 ^ by) s ≡ (b && bit x (s - by))
    place true t =
        let up : s ≡ by + (s - by) = omega (arith, leb-true by s t) in
        ap (bit (x * 2 ^ by)) up ∙ ap (λ y. eqb (y % 2) 1) (sym (shr-shr (x * 2 ^ by) by (s - by)) ∙ ap (λ y. y / 2 ^ (s - by)) (shl-shr x by))
    place false t =
        let up : by ≡ suc (by - s - 1) + s = omega (arith, leb-false by s t) in
        ap (λ e. bit (x * 2 ^ e) s) up
        ∙ ap (λ y. eqb (y / 2 ^ s % 2) 1) (ap (λ p. x * p) (pow-add 2 (suc (by - s - 1)) s) ∙ sym (mul_assoc x _ (2 ^ s)))
        ∙ ap (λ y. eqb (y % 2) 1) (shl-shr (x * 2 ^ suc (by - s - 1)) s)
        ∙ ap (λ y. eqb y 1) (shifted_even x (by - s - 1))

-- The bits that a mask names and those `by` above them change places.
unfoldable pub swap : ℕ → ℕ → ℕ → ℕ
swap by mask word = bit_or (bit_and (word / 2 ^ by) mask) (bit_and word mask * 2 ^ by % 2 ^ 64)

-- What the code finds is the swap.
pub swap_found : (by mask word r : ℕ) → r ≡ bit_or (bit_and (word / 2 ^ by) mask) (bit_and word mask * 2 ^ by % 2 ^ 64) → r ≡ swap by mask word
unfolding swap
swap_found by mask word r e = e

-- Where bit s comes from.
abbrev origin : ℕ → ℕ → ℕ → ℕ
origin by mask s = cond (bit mask s) (by + s) (s - by)

-- Whether a mask names just one of the two bits that change places.
abbrev paired : ℕ → ℕ → ℕ → Bool
paired by mask s = cond (bit mask s) (not (leb by s) || not (bit mask (s - by))) (leb by s && bit mask (s - by))

swap_bit : (by mask word s : ℕ) → s < 64 → paired by mask s ≡ true → bit (swap by mask word) s ≡ bit word (origin by mask s)
unfolding swap
swap_bit by mask word s under fits =
    or_bits (bit_and (word / 2 ^ by) mask) (bit_and word mask * 2 ^ by % 2 ^ 64) s
    ∙ ap (λ b. b || bit (bit_and word mask * 2 ^ by % 2 ^ 64) s) (and_bits (word / 2 ^ by) mask s ∙ ap (λ y. eqb (y % 2) 1 && bit mask s) (shr-shr word by s))
    ∙ ap (λ b. (bit word (by + s) && bit mask s) || b) (shl_bit (bit_and word mask) by s under ∙ ap (λ b. leb by s && b) (and_bits word mask (s - by)))
    ∙ either (bit mask s) (leb by s) (bit mask (s - by)) fits
  where
    either : (m l k : Bool) → cond m (not l || not k) (l && k) ≡ true
        → ((bit word (by + s) && m) || (l && (bit word (s - by) && k))) ≡ bit word (cond m (by + s) (s - by))
    either true true true t = absurd (false≢true t)
    either true true false t = simp (and-true, and-false, or-false)
    either true false k t = simp (and-true, or-false)
    either false true true t = simp (and-true, and-false)
    either false true false t = absurd (false≢true t)
    either false false k t = absurd (false≢true t)

swap_fits : (by mask word : ℕ) → word < 2 ^ 64 → swap by mask word < 2 ^ 64
unfolding swap
swap_fits by mask word small =
    or_lt 64 (bit_and (word / 2 ^ by) mask) (bit_and word mask * 2 ^ by % 2 ^ 64)
    (omega (arith, and_le_l (word / 2 ^ by) mask, shr_le word by))
    (mod-lt (bit_and word mask * 2 ^ by) (pow_pos 64))

-- Steps of swaps one after the other, each by its places and its mask.
abbrev pub swaps : List (ℕ × ℕ) → ℕ → ℕ
swaps [] word = word
swaps (step ∷ rest) word = swaps rest (swap step.0 step.1 word)

-- Where bit s comes from after them.
abbrev pub origins : List (ℕ × ℕ) → ℕ → ℕ
origins [] s = s
origins (step ∷ rest) s = origin step.0 step.1 (origins rest s)

-- Whether each step moves every bit within the word.
abbrev moves : ℕ × ℕ → ℕ → Bool
moves step s = paired step.0 step.1 s && ltb (origin step.0 step.1 s) 64

abbrev pub sound : List (ℕ × ℕ) → Bool
sound [] = true
sound (step ∷ rest) = all 64 (moves step) && sound rest

swaps_bit : (steps : List (ℕ × ℕ)) → sound steps ≡ true → (word s : ℕ) → s < 64
    → (bit (swaps steps word) s ≡ bit word (origins steps s)) × (origins steps s < 64)
swaps_bit [] fits word s under = (refl, under)
swaps_bit (step ∷ rest) fits word s under =
    let later = swaps_bit rest (and_right (all 64 (moves step)) (sound rest) fits) (swap step.0 step.1 word) s under in
    let from = origins rest s in
    let here = all_at 64 (moves step) (and_left (all 64 (moves step)) (sound rest) fits) from later.1 in
    let both : paired step.0 step.1 from ≡ true = and_left _ (ltb (origin step.0 step.1 from) 64) here in (
      later.0 ∙ swap_bit step.0 step.1 word from later.1 both,
      ltb-true _ _ (and_right (paired step.0 step.1 from) _ here),
    )

swaps_fits : (steps : List (ℕ × ℕ)) (word : ℕ) → word < 2 ^ 64 → swaps steps word < 2 ^ 64
swaps_fits [] word small = small
swaps_fits (step ∷ rest) word small = swaps_fits rest _ (swap_fits step.0 step.1 word small)

-- Steps that move every bit to the other end reverse the word.
pub reversal : (steps : List (ℕ × ℕ)) → sound steps ≡ true → all 64 (λ s. eqb (origins steps s) (63 - s)) ≡ true
    → (word : ℕ) → word < 2 ^ 64 → swaps steps word ≡ bits_where 64 (bit word)
reversal steps fits ends word small =
    bits_ext 64 _ _ (swaps_fits steps word small) (where_below 64 (bit word)) (λ s under.
    (swaps_bit steps fits word s under).0
    ∙ ap (bit word) (eqb-true _ _ (all_at 64 _ ends s under))
    ∙ sym (where_bit 64 (bit word) s under))
