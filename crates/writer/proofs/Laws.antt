-- Laws of writing, for the proofs here and for callers: the bits that are written are read back, and every other bit stays. Bytes may be
-- any numbers.
use Prim.Native.Nat.{ℕ, zero, suc, ◌+◌, ◌-◌, ◌*◌, ◌/◌, ◌%◌, ◌^◌, ◌≤◌, ◌<◌}
use mathlib.Core.Bool.{Bool, true, false, and-eq-true_iff}
use mathlib.Core.List.{List, ◌++◌}
use mathlib.Core.Path.{◌≡◌, refl, sym, ap, ◌∙◌}
use native.Mathlib.Nat.{add-zero, add-suc, add_assoc, div-one, mod-lt, mod-eq_of_lt}
use native.Mathlib.Numerals.{add-one, one-add}
use native.Mathlib.Omega.{arith}
use borrow.Author.Tests.{ltb-true, ltb-false, eqb-true, eqb-false, leb-true, le-leb, lt-ltb}
use lib.Dec.{ltb, eqb}
use lib.ListN.{length, get_or, set, length-set, get_or-append}
use lib.Pow.{high, low, pow_pos, shr-shr, field, mod-mod-pow, mod-pow-add}
use lib.Seq.{set_out, set-append_left, get_or-set_same, get_or-set_other}
use Rattle.bits.specs.Fields.{bit_at, bits_at, is_there, field_at}
use Rattle.std.specs.Prelude.{Option, Some, None}
use Rattle.bits.proofs.Laws.{bits_agree, in_full, is_there_lem, found}
use Rattle.bits.proofs.Places.{either}
use Rattle.writer.specs.Writing.{with_bit, put_bit, put_bits, put_field, has_room}

-- Numbers with the same last k bits have the same bit j below k.
low_bit : (x y j k : ℕ) → j < k → x % 2 ^ k ≡ y % 2 ^ k → x / 2 ^ j % 2 ≡ y / 2 ^ j % 2
low_bit x y j k below e =
    let d = k - j - 1 in
    let whole : k ≡ d + 1 + j = omega arith in
    let same : x / 2 ^ j % 2 ^ (d + 1) ≡ y / 2 ^ j % 2 ^ (d + 1) =
    sym (field x (d + 1) j) ∙ ap (λ n. n / 2 ^ j) (rw whole at e) ∙ field y (d + 1) j
    in
    sym (mod-mod-pow (x / 2 ^ j) d 1) ∙ ap (λ n. n % 2) same ∙ mod-mod-pow (y / 2 ^ j) d 1

-- The last w + 1 bits of a number, with the last of them apart.
module _ (v w : ℕ) where
  half_first : v % 2 ^ suc w / 2 ≡ v / 2 % 2 ^ w
  half_first = rw (← add-one w) (field v w 1)

  half_last : v % 2 ^ suc w % 2 ≡ v % 2
  half_last = rw (← add-one w) (mod-mod-pow v w 1)

  pub halves_sum : v % 2 ^ suc w ≡ v / 2 % 2 ^ w * 2 + v % 2
  halves_sum = rw (← add-one w) (mod-pow-add v w 1)

  half_earlier : v / 2 / 2 ^ w ≡ v / 2 ^ suc w
  half_earlier = rw (← one-add w) (shr-shr v 1 w)

-- A byte with one bit replaced: that bit, and any other.
module _ (byte k b : ℕ) (small : b < 2) where
  digits_from : with_bit byte k b / 2 ^ k ≡ byte / 2 ^ suc k * 2 + b
  unfolding with_bit
  digits_from = high (byte / 2 ^ suc k * 2 + b) k (mod-lt byte (pow_pos k))

  digits_below : with_bit byte k b % 2 ^ k ≡ byte % 2 ^ k
  unfolding with_bit
  digits_below = low (byte / 2 ^ suc k * 2 + b) k (mod-lt byte (pow_pos k))

  bit_here : with_bit byte k b / 2 ^ k % 2 ≡ b
  bit_here = rw digits_from (omega arith)

  bits_above : (d : ℕ) → with_bit byte k b / 2 ^ (k + 1 + d) ≡ byte / 2 ^ (k + 1 + d)
  bits_above d =
      let half : (byte / 2 ^ suc k * 2 + b) / 2 ≡ byte / 2 ^ suc k = omega arith in
      let next : suc k ≡ k + 1 = omega arith in
      rw (← shr-shr (with_bit byte k b) (k + 1) d, ← shr-shr (with_bit byte k b) k 1, digits_from, half, next, shr-shr byte (k + 1) d)

  bit_other : (j : ℕ) → (j ≡ k → ⊥) → with_bit byte k b / 2 ^ j % 2 ≡ byte / 2 ^ j % 2
  bit_other j apart = by (ltb j k) refl
    where
      by : (t : Bool) → ltb j k ≡ t → with_bit byte k b / 2 ^ j % 2 ≡ byte / 2 ^ j % 2
      by true t = low_bit (with_bit byte k b) byte j k (ltb-true j k t) digits_below
      by false t =
          let above = ltb-false j k t in
          let whole : k + 1 + (j - k - 1) ≡ j = omega arith in
          ap (λ n. n % 2) (rw whole at (bits_above (j - k - 1)))

-- One bit is written.
module _ (s : List ℕ) (i b : ℕ) where
  abbrev byte : ℕ
  byte = get_or s (i / 8) 0

  abbrev new_byte : ℕ
  new_byte = with_bit byte (7 - i % 8) b

  length_put_bit : length (put_bit s i b) ≡ length s
  unfolding put_bit
  length_put_bit = length-set s (i / 8) new_byte

  put_bit_here : b < 2 → i < 8 * length s → bit_at (put_bit s i b) i ≡ b
  unfolding put_bit bit_at
  put_bit_here small inside = rw (get_or-set_same s (i / 8) new_byte 0 (omega arith)) (bit_here byte (7 - i % 8) b small)

  put_bit_other : b < 2 → (j : ℕ) → (j ≡ i → ⊥) → bit_at (put_bit s i b) j ≡ bit_at s j
  unfolding put_bit bit_at
  put_bit_other small j apart = by (eqb (j / 8) (i / 8)) refl (ltb (i / 8) (length s)) refl
    where
      by : (t : Bool) → eqb (j / 8) (i / 8) ≡ t → (u : Bool) → ltb (i / 8) (length s) ≡ u → bit_at (set s (i / 8) new_byte) j ≡ bit_at s j
      by true t true u =
          let same = eqb-true (j / 8) (i / 8) t in
          rw (same, get_or-set_same s (i / 8) new_byte 0 (ltb-true (i / 8) (length s) u))
          (bit_other byte (7 - i % 8) b small (7 - j % 8) (λ e. apart (omega arith)))
      by true t false u = rw (set_out s (i / 8) new_byte (ltb-false (i / 8) (length s) u))
      by false t u v = rw (get_or-set_other s (i / 8) (j / 8) new_byte 0 (eqb-false (j / 8) (i / 8) t))

  -- Bytes after s stay as they are.
  put_bit_append : (rest : List ℕ) → i < 8 * length s → put_bit (s ++ rest) i b ≡ put_bit s i b ++ rest
  unfolding put_bit
  put_bit_append rest inside =
      let here : i / 8 < length s = omega arith in
      rw (get_or-append s rest 0 (i / 8) here) (set-append_left s rest (i / 8) new_byte here)

-- A field is written: its last bit is written after the others.
pub length_put : (s : List ℕ) (at w v : ℕ) → length (put_bits s at w v) ≡ length s
unfolding put_bits
length_put s at zero v = refl
length_put s at (suc w) v = length_put_bit (put_bits s at w (v / 2)) (at + w) (v % 2) ∙ length_put s at w (v / 2)

-- A bit that is none of the field's stays.
put_outside : (s : List ℕ) (at w v j : ℕ) → ((k : ℕ) → k < w → j ≡ at + k → ⊥) → bit_at (put_bits s at w v) j ≡ bit_at s j
unfolding put_bits
put_outside s at zero v j apart = refl
put_outside s at (suc w) v j apart =
    put_bit_other (put_bits s at w (v / 2)) (at + w) (v % 2) (omega arith) j (apart w (omega arith))
    ∙ put_outside s at w (v / 2) j (λ k h. apart k (omega arith))

pub put_before : (s : List ℕ) (at w v j : ℕ) → j < at → bit_at (put_bits s at w v) j ≡ bit_at s j
put_before s at w v j before = put_outside s at w v j (λ k h e. omega arith)

pub put_after : (s : List ℕ) (at w v j : ℕ) → at + w ≤ j → bit_at (put_bits s at w v) j ≡ bit_at s j
put_after s at w v j after = put_outside s at w v j (λ k h e. omega arith)

-- The field read back is the last w bits of the value.
pub put_read : (s : List ℕ) (at w v : ℕ) → at + w ≤ 8 * length s → bits_at (put_bits s at w v) at w ≡ v % 2 ^ w
unfolding put_bits bits_at
put_read s at zero v inside = omega arith
put_read s at (suc w) v inside =
    let first = put_bits s at w (v / 2) in
    let all = put_bit first (at + w) (v % 2) in
    let room : at + w < 8 * length first = omega (arith, length_put s at w (v / 2)) in
    let last : bit_at all (at + w) ≡ v % 2 = put_bit_here first (at + w) (v % 2) (omega arith) room in
    let others : bits_at all at w ≡ bits_at first at w =
    bits_agree all first at at w (λ k h. put_bit_other first (at + w) (v % 2) (omega arith) (at + k) (λ e. omega arith))
    in
    rw (last, others, put_read s at w (v / 2) (omega arith)) (sym (halves_sum v w))

-- Only the last w bits of the value matter.
pub put_low : (s : List ℕ) (at w v : ℕ) → put_bits s at w v ≡ put_bits s at w (v % 2 ^ w)
unfolding put_bits
put_low s at zero v = refl
put_low s at (suc w) v =
    ap (λ l. put_bit l (at + w) (v % 2)) (put_low s at w (v / 2)) ∙ rw (← half_first v w, ← half_last v w)

-- Two adjacent fields are one.
pub put_join : (s : List ℕ) (at w k v : ℕ) → put_bits s at (w + k) v ≡ put_bits (put_bits s at w (v / 2 ^ k)) (at + w) k (v % 2 ^ k)
unfolding put_bits
put_join s at w zero v = rw (add-zero w) (ap (put_bits s at w) (sym (div-one v)))
put_join s at w (suc k) v =
    rw (add-suc w k, put_join s at w k (v / 2), half_earlier v k, half_first v k, half_last v k, add_assoc at w k)

-- The next k bits of a value of w bits, after the first `done` of them.
pub put_more : (s : List ℕ) (at done k w v : ℕ) → done + k ≤ w
    → put_bits (put_bits s at done (v / 2 ^ (w - done))) (at + done) k (v / 2 ^ (w - done - k)) ≡ put_bits s at (done + k) (v / 2 ^ (w - (done + k)))
put_more s at done k w v within =
    let left = w - (done + k) in
    let next : w - done - k ≡ left = omega arith in
    let first : w - done ≡ left + k = omega arith in
    rw (next, first, ← shr-shr v left k, put_low (put_bits s at done (v / 2 ^ left / 2 ^ k)) (at + done) k (v / 2 ^ left))
    (sym (put_join s at done k (v / 2 ^ left)))

-- Bytes after the field stay as they are.
pub put_append : (s rest : List ℕ) (at w v : ℕ) → at + w ≤ 8 * length s → put_bits (s ++ rest) at w v ≡ put_bits s at w v ++ rest
unfolding put_bits
put_append s rest at zero v inside = refl
put_append s rest at (suc w) v inside =
    ap (λ l. put_bit l (at + w) (v % 2)) (put_append s rest at w (v / 2) (omega arith))
    ∙ put_bit_append (put_bits s at w (v / 2)) (at + w) (v % 2) rest (omega (arith, length_put s at w (v / 2)))

-- Where there is room.
pub has_room_lem : (s : List ℕ) (at w : ℕ) → at + w ≤ 8 * length s → at + w < 2 ^ 64 → has_room s at w ≡ true
unfolding has_room
has_room_lem s at w inside fits = rw (le-leb (at + w) (8 * length s) inside, lt-ltb (at + w) (2 ^ 64) fits)

pub in_room : (s : List ℕ) (at w : ℕ) → has_room s at w ≡ true → (at + w ≤ 8 * length s) × (at + w < 2 ^ 64)
unfolding has_room
in_room s at w e = let tests = simp and-eq-true_iff at e in (leb-true _ _ tests.0, ltb-true _ _ tests.1)

-- A field that fits is written.
pub field_put : (s : List ℕ) (at w v : ℕ) → 1 ≤ w → w ≤ 64 → at + w ≤ 8 * length s → at + w < 2 ^ 64 → put_field s at w v ≡ put_bits s at w v
unfolding put_field
field_put s at w v least most inside fits = rw (is_there_lem s at w least most inside fits)

-- What holds of the bytes as they were and of the bytes with the field holds of what writing the field leaves.
by_put : (P : List ℕ → Type 0) (s : List ℕ) (at w v : ℕ) → P s → P (put_bits s at w v) → P (put_field s at w v)
unfolding put_field
by_put P s at w v old new = either P (is_there s at w) (put_bits s at w v) s new old

pub length_field : (s : List ℕ) (at w v : ℕ) → length (put_field s at w v) ≡ length s
length_field s at w v = by_put (λ l. length l ≡ length s) s at w v refl (length_put s at w v)

-- Every bit before the field and after it stays.
pub field_before : (s : List ℕ) (at w v j : ℕ) → j < at → bit_at (put_field s at w v) j ≡ bit_at s j
field_before s at w v j before = by_put (λ l. bit_at l j ≡ bit_at s j) s at w v refl (put_before s at w v j before)

pub field_after : (s : List ℕ) (at w v j : ℕ) → at + w ≤ j → bit_at (put_field s at w v) j ≡ bit_at s j
field_after s at w v j after = by_put (λ l. bit_at l j ≡ bit_at s j) s at w v refl (put_after s at w v j after)

-- Reading gives back what was written.
pub read_back : (s : List ℕ) (at w v : ℕ) → is_there s at w ≡ true → v < 2 ^ w → field_at (put_field s at w v) at w ≡ Some (v, (at + w))
read_back s at w v t small =
    let there = in_full s at w t in
    let same = length_put s at w v in
    rw (
      field_put s at w v there.least there.most there.inside there.fits,
      found (put_bits s at w v) at w there.least there.most (omega (arith, there)) there.fits,
      put_read s at w v there.inside,
      mod-eq_of_lt small,
    )
