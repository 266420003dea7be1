-- Laws of writing within a byte: the bits of a field that belong to one byte are written by one store.
use Prim.Native.Nat.{ℕ, zero, suc, ◌+◌, ◌-◌, ◌*◌, ◌/◌, ◌%◌, ◌^◌, ◌≤◌, ◌<◌}
use mathlib.Core.List.{List}
use mathlib.Core.Path.{◌≡◌, sym, ap, subst, ◌∙◌}
use native.Mathlib.Nat.{zero-add, one-mul, mod-lt, mul_assoc, pow-suc}
use native.Mathlib.Numerals.{one-add}
use native.Mathlib.Omega.{arith}
use lib.Arith.{digits_lt}
use lib.ListN.{length, get_or, set}
use lib.Pow.{split, high, low, pow_pos, pow_mono, pow-add, shr_lt, shl_exact, mod-mod-pow}
use lib.Seq.{set-get_or, set-set, get_or-set_same}
use Rattle.writer.specs.Writing.{with_bit, put_bit, put_bits}
use Rattle.writer.proofs.Laws.{halves_sum}

-- A byte with the last k bits of a value in place of its own k bits, so that `after` bits follow them.
abbrev pub with_bits : ℕ → ℕ → ℕ → ℕ → ℕ
with_bits byte k after value = (byte / 2 ^ (k + after) * 2 ^ k + value % 2 ^ k) * 2 ^ after + byte % 2 ^ after

-- A power of 2 as the code makes it, by a shift.
pub power : (k : ℕ) → k ≤ 8 → 1 * 2 ^ k % 2 ^ 64 ≡ 2 ^ k
power k most = rw (shl_exact {a = 1} 1 k 64 (omega arith) (omega arith)) (one-mul (2 ^ k))

-- The new byte is below 256, and no shift of the code loses a bit.
module _ (byte k after v : ℕ) (small : byte < 256) (within : k + after ≤ 8) where
  -- The bits before the new ones.
  before_below : byte / 2 ^ (k + after) < 2 ^ (8 - (k + after))
  before_below = let whole : 8 - (k + after) + (k + after) ≡ 8 = omega arith in shr_lt (8 - (k + after)) (k + after) (rw whole small)

  -- The bits up to the last new one.
  front_below : byte / 2 ^ (k + after) * 2 ^ k + v % 2 ^ k < 2 ^ (8 - after)
  front_below =
      let fewer : 8 - after ≡ 8 - (k + after) + k = omega arith in
      rw (fewer, pow-add 2 (8 - (k + after)) k) (digits_lt before_below (mod-lt v (pow_pos k)))

  pub byte_below : with_bits byte k after v < 256
  byte_below =
      let total : 8 - after + after ≡ 8 = omega arith in
      let whole : 2 ^ (8 - after) * 2 ^ after ≡ 256 = sym (pow-add 2 (8 - after) after) ∙ ap (λ e. 2 ^ e) total in
      subst (λ n. with_bits byte k after v < n) whole (digits_lt front_below (mod-lt byte (pow_pos after)))

  front_coded : byte / 2 ^ (k + after) * 2 ^ k % 2 ^ 64 + v % (1 * 2 ^ k % 2 ^ 64) ≡ byte / 2 ^ (k + after) * 2 ^ k + v % 2 ^ k
  front_coded = rw (power k (omega arith), shl_exact (8 - (k + after)) k 64 before_below (omega arith))

  pub front_fits : byte / 2 ^ (k + after) * 2 ^ k % 2 ^ 64 + v % (1 * 2 ^ k % 2 ^ 64) < 256
  front_fits = let most : 8 - after ≤ 8 = omega arith in omega (arith, front_coded, front_below, pow_mono most)

  pub byte_coded :
      (byte / 2 ^ (k + after) * 2 ^ k % 2 ^ 64 + v % (1 * 2 ^ k % 2 ^ 64)) * 2 ^ after % 2 ^ 64 + byte % (1 * 2 ^ after % 2 ^ 64)
      ≡ with_bits byte k after v
  byte_coded = rw (front_coded, power after (omega arith), shl_exact (8 - after) after 64 front_below (omega arith))

-- Of the last k + 1 bits of a number, the last k.
fewer : (n k : ℕ) → n % 2 ^ suc k % 2 ^ k ≡ n % 2 ^ k
fewer n k = rw (← one-add k) (mod-mod-pow n 1 k)

-- Writing no bit changes nothing.
with_none : (byte after v : ℕ) → with_bits byte 0 after v ≡ byte
with_none byte after v =
    let none : byte / 2 ^ after * 1 + v % 1 ≡ byte / 2 ^ after = omega arith in
    rw (zero-add after, none) (split byte after)

-- Writing k bits and then one more is writing k + 1.
with_more : (byte k after v : ℕ) → with_bit (with_bits byte k (suc after) (v / 2)) after (v % 2) ≡ with_bits byte (suc k) after v
unfolding with_bit
with_more byte k after v =
    let old = with_bits byte k (suc after) (v / 2) in
    let first = byte / 2 ^ (k + suc after) in
    let rest : byte % 2 ^ suc after < 2 ^ suc after = mod-lt byte (pow_pos (suc after)) in
    let top : old / 2 ^ suc after ≡ first * 2 ^ k + v / 2 % 2 ^ k = high (first * 2 ^ k + v / 2 % 2 ^ k) (suc after) rest in
    let end : old % 2 ^ suc after ≡ byte % 2 ^ suc after = low (first * 2 ^ k + v / 2 % 2 ^ k) (suc after) rest in
    let low_end : old % 2 ^ after ≡ byte % 2 ^ after = sym (fewer old after) ∙ ap (λ n. n % 2 ^ after) end ∙ fewer byte after in
    let place : k + suc after ≡ suc k + after = omega arith in
    let more : (first * 2 ^ k + v / 2 % 2 ^ k) * 2 + v % 2 ≡ first * 2 ^ suc k + v % 2 ^ suc k =
    rw (halves_sum v k, pow-suc 2 k, ← mul_assoc first (2 ^ k) 2) (omega arith)
    in
    rw (top, low_end, more, place)

-- One store writes bits that are all in one byte.
pub byte_put : (s : List ℕ) (at k v : ℕ) → at % 8 + k ≤ 8 → at / 8 < length s
    → put_bits s at k v ≡ set s (at / 8) (with_bits (get_or s (at / 8) 0) k (8 - at % 8 - k) v)
unfolding put_bits put_bit
byte_put s at zero v within here =
    rw (with_none (get_or s (at / 8) 0) (8 - at % 8 - 0) v) (sym (set-get_or s (at / 8) 0))
byte_put s at (suc k) v within here =
    let i = at / 8 in
    let after = 8 - at % 8 - suc k in
    let old = with_bits (get_or s i 0) k (suc after) (v / 2) in
    let byte : (at + k) / 8 ≡ i = omega arith in
    let place : 7 - (at + k) % 8 ≡ after = omega arith in
    let longer : 8 - at % 8 - k ≡ suc after = omega arith in
    let first : put_bits s at k (v / 2) ≡ set s i old = rw longer at (byte_put s at k (v / 2) (omega arith) here) in
    rw (first, byte, place, get_or-set_same s i old 0 here, set-set, with_more (get_or s i 0) k after v)
