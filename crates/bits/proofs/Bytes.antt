-- Laws of whole bytes: a byte is the value of its 8 bits; the 8 bits from any cursor on lie within two bytes, and 64 bits within nine.
use Prim.Native.Nat.{ℕ, zero, suc, ◌+◌, ◌-◌, ◌*◌, ◌/◌, ◌%◌, ◌^◌, ◌≤◌, ◌<◌}
use mathlib.Core.List.{List}
use mathlib.Core.Path.{◌≡◌, sym, ap, subst, ◌∙◌}
use native.Mathlib.Nat.{div-one, add-mul, mul_assoc}
use native.Mathlib.Omega.{arith}
use lib.ListN.{get_or}
use lib.Pow.{high, low, pow-add, shl_lt, shr-shr, shl_exact}
use Rattle.bits.specs.Fields.{bit_at, bits_at}
use Rattle.bits.proofs.Laws.{bits_join, bits_below}

module _ (s : List ℕ) where
  -- Shifting a byte right by 8 - k leaves its first k bits.
  byte_first : (i k : ℕ) → get_or s i 0 < 256 → k ≤ 8 → bits_at s (8 * i) k ≡ get_or s i 0 / 2 ^ (8 - k)
  unfolding bits_at bit_at
  byte_first i zero small within = omega arith
  byte_first i (suc k) small within =
      let byte : (8 * i + k) / 8 ≡ i = omega arith in
      let place : 7 - (8 * i + k) % 8 ≡ 7 - k = omega arith in
      let shorter : 8 - suc k ≡ 7 - k = omega arith in
      let longer : 8 - k ≡ 7 - k + 1 = omega arith in
      rw (byte, place, shorter, byte_first i k small (omega arith), longer, ← shr-shr) (omega arith)

  -- A byte is the value of its 8 bits.
  pub byte_bits : (i : ℕ) → get_or s i 0 < 256 → bits_at s (8 * i) 8 ≡ get_or s i 0
  byte_bits i small = byte_first i 8 small (omega arith) ∙ div-one (get_or s i 0)

  -- Shifting a field of k bits right by k - w leaves its first w bits.
  pub bits_first : (at w k : ℕ) → w ≤ k → bits_at s at k / 2 ^ (k - w) ≡ bits_at s at w
  bits_first at w k within =
      let whole : k ≡ w + (k - w) = omega arith in
      let parts : bits_at s at k ≡ bits_at s at w * 2 ^ (k - w) + bits_at s (at + w) (k - w) = ap (bits_at s at) whole ∙ bits_join s at w (k - w) in
      rw parts (high (bits_at s at w) (k - w) (bits_below s (at + w) (k - w)))

  -- The remainder of a longer field modulo 2 ^ k is its last k bits.
  pub bits_last : (at w k : ℕ) → bits_at s at (w + k) % 2 ^ k ≡ bits_at s (at + w) k
  bits_last at w k = rw bits_join (low (bits_at s at w) k (bits_below s (at + w) k))

  -- The 8 bits from a bit of byte i on lie within that byte and the next.
  pub window : (i skip : ℕ) → skip ≤ 8
      → (bits_at s (8 * i) 8 * 256 + bits_at s (8 * (i + 1)) 8) / 2 ^ (8 - skip) % 256 ≡ bits_at s (8 * i + skip) 8
  window i skip within =
      let next : 8 * (i + 1) ≡ 8 * i + 8 = omega arith in
      let after : 8 - skip ≡ 16 - (skip + 8) = omega arith in
      rw (next, ← bits_join s (8 * i) 8 8, after, bits_first (8 * i) (skip + 8) 16 (omega arith)) (bits_last (8 * i) skip 8)

  -- A field of at most 64 bits, from its first `done` bits and the rest, at most 8.
  pub bits_left : (at done width : ℕ) → done ≤ width → width ≤ done + 8 → width ≤ 64
      → bits_at s at done * 2 ^ (width - done) % 2 ^ 64 + bits_at s (at + done) 8 / 2 ^ (8 - (width - done)) ≡ bits_at s at width
  bits_left at done width within near most =
      let whole : done + (width - done) ≡ width = omega arith in
      rw (
        shl_exact {a = bits_at s at done} done (width - done) 64 (bits_below s at done) (omega arith),
        bits_first (at + done) (width - done) 8 (omega arith),
      )
      (sym (bits_join s at done (width - done)) ∙ ap (bits_at s at) whole)

  -- The value of k bytes and the w bits after them.
  pub bytes_join : (i k w : ℕ) → bits_at s (8 * i) (8 * k + w) ≡ bits_at s (8 * i) (8 * k) * 2 ^ w + bits_at s (8 * (i + k)) w
  bytes_join i k w =
      let after : 8 * (i + k) ≡ 8 * i + 8 * k = omega arith in
      rw after (bits_join s (8 * i) (8 * k) w)

  -- The bits before the cursor are shifted out of the first eight bytes, and bits of the ninth are shifted in.
  pub wide_window : (at : ℕ)
      → bits_at s (8 * (at / 8)) 64 * 2 ^ (at % 8) % 2 ^ 64 + bits_at s (8 * (at / 8 + 8)) 8 / 2 ^ (8 - at % 8) ≡ bits_at s at 64
  wide_window at =
      let first = 8 * (at / 8) in
      let over = at % 8 in
      let cursor : first + over ≡ at = omega arith in
      let ninth : 8 * (at / 8 + 8) ≡ at + (64 - over) = omega arith in
      let whole : 64 ≡ over + (64 - over) = omega arith in
      let whole' : 64 ≡ 64 - over + over = omega arith in
      let a = bits_at s first over in
      let b = bits_at s at (64 - over) in
      let parts : bits_at s first 64 ≡ a * 2 ^ (64 - over) + b =
      ap (bits_at s first) whole ∙ bits_join s first over (64 - over) ∙ ap (λ here. a * 2 ^ (64 - over) + bits_at s here (64 - over)) cursor
      in
      let power : 2 ^ (64 - over) * 2 ^ over ≡ 2 ^ 64 = sym (pow-add 2 (64 - over) over) ∙ ap (λ e. 2 ^ e) (sym whole') in
      let moved : bits_at s first 64 * 2 ^ over ≡ a * 2 ^ 64 + b * 2 ^ over =
      ap (λ x. x * 2 ^ over) parts ∙ add-mul (a * 2 ^ (64 - over)) b (2 ^ over)
      ∙ ap (λ x. x + b * 2 ^ over) (mul_assoc a (2 ^ (64 - over)) (2 ^ over) ∙ ap (λ x. a * x) power)
      in
      let fits : b * 2 ^ over < 2 ^ 64 =
      subst (λ e. b * 2 ^ over < 2 ^ e) (sym whole') (shl_lt {a = b} (64 - over) over (bits_below s at (64 - over)))
      in
      let kept : bits_at s first 64 * 2 ^ over % 2 ^ 64 ≡ b * 2 ^ over = ap (λ x. x % 2 ^ 64) moved ∙ low a 64 fits in
      rw (kept, ninth, bits_first (at + (64 - over)) over 8 (omega arith))
      (sym (bits_join s at (64 - over) over) ∙ ap (bits_at s at) (sym whole'))
