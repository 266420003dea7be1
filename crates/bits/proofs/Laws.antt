-- Laws of the packed reader's definitions, for the proofs here and for callers: bits, then fields.
use Prim.Native.Nat.{ℕ, zero, suc, ◌+◌, ◌*◌, ◌/◌, ◌%◌, ◌^◌, ◌≤◌, ◌<◌}
use mathlib.Core.Bool.{Bool, true, false, cond, and-eq-true_iff, not-eq-not}
use mathlib.Core.List.{List}
use mathlib.Core.Path.{◌≡◌, refl, sym, ◌∙◌}
use native.Mathlib.Nat.{add-zero, add-suc, add_assoc, pow-suc, zero-div}
use native.Mathlib.Numerals.{add-one}
use native.Mathlib.Omega.{arith}
use borrow.Author.Tests.{leb-true, ltb-true, le-leb, lt-ltb}
use lib.ListN.{length, get_or-eq_default}
use lib.Pow.{pow_mono}
use lib.Arith.{digits_div, digits_mod}
use Rattle.bits.specs.Fields.{bit_at, bits_at, is_there, field_at, number_at}
use Rattle.std.specs.Prelude.{Option, Some, None}

-- Two tests are equal if the second passes exactly when the first does.
pub same_test : (a b : Bool) → (a ≡ true → b ≡ true) → (a ≡ false → b ≡ true → ⊥) → a ≡ b
same_test true b f g = sym (f refl)
same_test false b f g = sym ((not-eq-not {b = false}).0 (g refl))

pub bit_below : (s : List ℕ) (i : ℕ) → bit_at s i < 2
unfolding bit_at
bit_below s i = omega arith

-- Past the end every bit is 0.
pub bit_past : (s : List ℕ) (i : ℕ) → 8 * length s ≤ i → bit_at s i ≡ 0
unfolding bit_at
bit_past s i h = rw (get_or-eq_default s 0 {n = i / 8} (omega arith), zero-div)

-- One more bit, with the code's `w + 1`.
pub bits_more : (s : List ℕ) (at w : ℕ) → bits_at s at (w + 1) ≡ bits_at s at w * 2 + bit_at s (at + w)
unfolding bits_at
bits_more s at w = rw add-one

pub bits_below : (s : List ℕ) (at w : ℕ) → bits_at s at w < 2 ^ w
unfolding bits_at
bits_below s at zero = omega arith
bits_below s at (suc w) = omega (arith, pow-suc 2 w, bits_below s at w, bit_below s (at + w))

pub bits_fit : (s : List ℕ) (at w : ℕ) → w ≤ 64 → bits_at s at w < 2 ^ 64
bits_fit s at w most = omega (arith, bits_below s at w, pow_mono most)

-- The value of two adjacent fields.
pub bits_join : (s : List ℕ) (at w k : ℕ) → bits_at s at (w + k) ≡ bits_at s at w * 2 ^ k + bits_at s (at + w) k
unfolding bits_at
bits_join s at w zero = rw (add-zero w) (omega arith)
bits_join s at w (suc k) =
    rw (add-suc, pow-suc, ← add_assoc at w k) (omega (arith, bits_join s at w k))

pub number_bits : (s : List ℕ) (at w : ℕ) → w ≤ 64 → number_at s at w ≡ bits_at s at w
unfolding number_at
number_bits s at w most = rw (le-leb w 64 most)

-- The value of a field depends only on its bits, not on where they are.
pub bits_agree : (s t : List ℕ) (a b w : ℕ) → ((k : ℕ) → k < w → bit_at s (a + k) ≡ bit_at t (b + k)) → bits_at s a w ≡ bits_at t b w
unfolding bits_at
bits_agree s t a b zero same = refl
bits_agree s t a b (suc w) same =
    omega (arith, bits_agree s t a b w (λ k h. same k (omega arith)), same w (omega arith))

-- What is known of a field that is there: v is its value and next the cursor after it.
pub record There (s : List ℕ) (at w v next : ℕ) : Type 0 where
  pub value : v ≡ bits_at s at w
  pub moved : next ≡ at + w
  pub inside : at + w ≤ 8 * length s
  pub small : v < 2 ^ w
  pub least : 1 ≤ w
  pub most : w ≤ 64
  pub fits : next < 2 ^ 64

-- What `is_there` implies.
pub in_full : (s : List ℕ) (at w : ℕ) → is_there s at w ≡ true → There s at w (bits_at s at w) (at + w)
unfolding is_there
in_full s at w e =
    let tests = simp and-eq-true_iff at e in
    omega (arith, leb-true, ltb-true, bits_below s at w)

-- A field that is inside the file is read.
module _ (s : List ℕ) (at w : ℕ) (least : 1 ≤ w) (most : w ≤ 64) (inside : at + w ≤ 8 * length s) (fits : at + w < 2 ^ 64) where
  pub is_there_lem : is_there s at w ≡ true
  unfolding is_there
  is_there_lem = simp (le-leb 1 w, le-leb w 64, le-leb (at + w) (8 * length s), lt-ltb (at + w) (2 ^ 64))

  pub found : field_at s at w ≡ Some ((bits_at s at w), (at + w))
  unfolding field_at
  found = rw is_there_lem

-- What each answer of a read implies.
abbrev OfField : List ℕ → ℕ → ℕ → Option (ℕ × ℕ) → Type 0
OfField s at w (Some (v, next)) = There s at w v next
OfField s at w None = is_there s at w ≡ false

of_field : (s : List ℕ) (at w : ℕ) → OfField s at w (field_at s at w)
unfolding field_at
of_field s at w = by (is_there s at w) refl
  where
    by : (b : Bool) → is_there s at w ≡ b → OfField s at w (cond b (Some ((bits_at s at w), (at + w))) None)
    by true t = in_full s at w t
    by false t = t

pub there : (s : List ℕ) (at w v next : ℕ) → field_at s at w ≡ Some (v, next) → There s at w v next
there s at w v next e = rw e at (of_field s at w)

-- A field that is there is two adjacent fields.
pub parted : (s : List ℕ) (at w k v next : ℕ) → 1 ≤ w → 1 ≤ k → field_at s at (w + k) ≡ Some (v, next)
    → (field_at s at w ≡ Some ((v / 2 ^ k), (at + w))) × (field_at s (at + w) k ≡ Some ((v % 2 ^ k), next))
parted s at w k v next least more e =
    let t = there s at (w + k) v next e in
    let small = bits_below s (at + w) k in
    let v-is = t.value ∙ bits_join s at w k in
    let end = t.moved ∙ sym (add_assoc at w k) in
    let first = found s at w least (omega (arith, t)) (omega (arith, t)) (omega (arith, t)) in
    let second = found s (at + w) k more (omega (arith, t)) (omega (arith, t)) (omega (arith, t)) in
    (rw (v-is, digits_div (bits_at s at w) small) first, rw (v-is, digits_mod (bits_at s at w) small, end) second)
