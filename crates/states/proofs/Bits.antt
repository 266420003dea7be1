-- One word: its bits, bitwise operations, and what the bits of a word say about the word.
use Prim.Native.Nat.{ℕ, zero, suc, ◌+◌, ◌-◌, ◌*◌, ◌/◌, ◌%◌, ◌^◌, ◌<◌, zero-le}
use native.Mathlib.Nat.{zero-div, mod-lt, pow-suc, div-one, div-div-eq-div-mul, mul_comm, one-mul}
use native.Mathlib.Omega.{arith}
use mathlib.Core.Path.{◌≡◌, refl, sym, ap, ap₂, ◌∙◌}
use mathlib.Core.Bool.{Bool, true, false, cond, not, xor, ◌&&◌, ◌||◌, beq, true≢false, false≢true}
use lib.Dec.{eqb, ltb, eqb-suc-suc, eqb-zero-suc, eqb-suc-zero, leb-suc-suc}
use lib.Bits.{bit_and, bit_or, bit_xor, and_shr, or_shr, xor_shr, and_mod, or_mod, xor_mod, and_lt}
use lib.Count.{count_trailing_zeros, under}
use lib.Pow.{pow_pos, shl_exact}
use borrow.Author.Tests.{eqb-true, eq-eqb, lt-ltb, le-ltb}
use Rattle.states.specs.Search.{implies, all, any, least_where}
use Rattle.states.proofs.Search.{all_at, all_intro, all_cong, any_intro, any_first, any_cong, bool_ext, beq_refl, beq_true, beq_false}
use Rattle.states.proofs.Least.{least_cong}

-- Bit k of a word, the lowest first.
abbrev pub bit : ℕ → ℕ → Bool
bit x k = eqb (x / 2 ^ k % 2) 1

-- An operation on words that acts on each bit as β does on truth values.
abbrev pub Bitwise : (ℕ → ℕ → ℕ) → (Bool → Bool → Bool) → Type 0
Bitwise op β = (a b k : ℕ) → bit (op a b) k ≡ β (bit a k) (bit b k)

by_digits : (op : ℕ → ℕ → ℕ) (β : Bool → Bool → Bool)
    → ((a b k : ℕ) → op a b / 2 ^ k ≡ op (a / 2 ^ k) (b / 2 ^ k))
    → ((a b k : ℕ) → op a b % 2 ^ k ≡ op (a % 2 ^ k) (b % 2 ^ k))
    → ((x y : ℕ) → x < 2 → y < 2 → eqb (op x y) 1 ≡ β (eqb x 1) (eqb y 1)) → Bitwise op β
by_digits op β shr low digit a b k =
    ap (λ x. eqb (x % 2) 1) (shr a b k) ∙ ap (λ x. eqb x 1) (low (a / 2 ^ k) (b / 2 ^ k) 1)
    ∙ digit _ _ (mod-lt _ (omega arith)) (mod-lt _ (omega arith))

-- What holds for the digits 0 and 1 holds for any two numbers below 2.
on_digits : (P : ℕ → ℕ → Type 0) → P 0 0 → P 0 1 → P 1 0 → P 1 1 → (x y : ℕ) → x < 2 → y < 2 → P x y
on_digits P p q r s zero zero h l = p
on_digits P p q r s zero (suc zero) h l = q
on_digits P p q r s (suc zero) zero h l = r
on_digits P p q r s (suc zero) (suc zero) h l = s
on_digits P p q r s zero (suc (suc y)) h l = absurd (omega arith)
on_digits P p q r s (suc zero) (suc (suc y)) h l = absurd (omega arith)
on_digits P p q r s (suc (suc x)) y h l = absurd (omega arith)

pub and_bits : Bitwise bit_and ◌&&◌
and_bits = by_digits bit_and ◌&&◌ and_shr and_mod (on_digits (λ x y. eqb (bit_and x y) 1 ≡ (eqb x 1 && eqb y 1)) refl refl refl refl)

pub or_bits : Bitwise bit_or ◌||◌
or_bits = by_digits bit_or ◌||◌ or_shr or_mod (on_digits (λ x y. eqb (bit_or x y) 1 ≡ (eqb x 1 || eqb y 1)) refl refl refl refl)

xor_bits : Bitwise bit_xor xor
unfolding xor
xor_bits = by_digits bit_xor xor xor_shr xor_mod (on_digits (λ x y. eqb (bit_xor x y) 1 ≡ xor (eqb x 1) (eqb y 1)) refl refl refl refl)

-- The bits of a without those of b.
pub without_bits : Bitwise (λ a b. bit_xor a (bit_and a b)) (λ p q. p && not q)
unfolding xor
without_bits a b k = xor_bits a (bit_and a b) k ∙ ap (xor (bit a k)) (and_bits a b k) ∙ left (bit a k) (bit b k)
  where
    left : (p q : Bool) → xor p (p && q) ≡ (p && not q)
    left true true = refl
    left true false = refl
    left false q = refl

pub bit_nought : (s : ℕ) → bit 0 s ≡ false
bit_nought s = ap (λ y. eqb (y % 2) 1) (zero-div (2 ^ s))

pub bit_zero : (x : ℕ) → bit x 0 ≡ eqb (x % 2) 1
bit_zero x = ap (λ y. eqb (y % 2) 1) (div-one x)

pub bit_suc : (x k : ℕ) → bit x (suc k) ≡ bit (x / 2) k
bit_suc x k = ap (λ y. eqb (y % 2) 1) (ap (λ p. x / p) (pow-suc 2 k ∙ mul_comm (2 ^ k) 2) ∙ sym (div-div-eq-div-mul x 2 (2 ^ k)))

same_digit : (x y : ℕ) → x < 2 → y < 2 → eqb x 1 ≡ eqb y 1 → x ≡ y
same_digit = on_digits (λ x y. eqb x 1 ≡ eqb y 1 → x ≡ y) (λ e. refl) (λ e. absurd (false≢true e)) (λ e. absurd (true≢false e)) (λ e. refl)

pub bits_ext : (k x y : ℕ) → x < 2 ^ k → y < 2 ^ k → ((i : ℕ) → i < k → bit x i ≡ bit y i) → x ≡ y
bits_ext zero x y hx hy same = let hx : x < 1 = hx in let hy : y < 1 = hy in omega arith
bits_ext (suc k) x y hx hy same =
    let low : x % 2 ≡ y % 2 = same_digit _ _ (mod-lt x (omega arith)) (mod-lt y (omega arith)) (sym (bit_zero x) ∙ same 0 (omega arith) ∙ bit_zero y) in
    let high : x / 2 ≡ y / 2 = bits_ext k (x / 2) (y / 2) (half x hx) (half y hy) (λ i l. sym (bit_suc x i) ∙ same (suc i) (omega arith) ∙ bit_suc y i) in
    omega arith
  where
    half : (x : ℕ) → x < 2 ^ suc k → x / 2 < 2 ^ k
    half x h = let h : x < 2 ^ k * 2 = rw pow-suc at h in omega arith

-- Two words are equal iff their bits are; one word lies in another iff the and of the two is that word; a word is 0 iff no bit is set.
pub word_same : (x y : ℕ) → x < 2 ^ 64 → y < 2 ^ 64 → eqb x y ≡ all 64 (λ k. beq (bit x k) (bit y k))
word_same x y hx hy =
    bool_ext _ _ (λ e. all_intro 64 (λ k. beq (bit x k) (bit y k)) (λ k l. rw (eqb-true x y e) (beq_refl (bit y k))))
    (λ h. eq-eqb x y (bits_ext 64 x y hx hy (λ k l. beq_true _ _ (all_at 64 _ h k l))))

pub word_included : (x y : ℕ) → x < 2 ^ 64 → y < 2 ^ 64 → eqb (bit_and x y) x ≡ all 64 (λ k. implies (bit x k) (bit y k))
unfolding implies
word_included x y hx hy =
    word_same (bit_and x y) x (and_lt 64 x y hx hy) hx ∙ all_cong 64 _ _ (λ k l. rw (and_bits x y k) (kept (bit x k) (bit y k)))
  where
    kept : (p q : Bool) → beq (p && q) p ≡ implies p q
    kept true true = refl
    kept true false = refl
    kept false q = refl

pub word_empty : (x : ℕ) → x < 2 ^ 64 → eqb x 0 ≡ all 64 (λ k. not (bit x k))
word_empty x hx = word_same x 0 hx (omega arith) ∙ all_cong 64 _ _ (λ k l. rw (bit_nought k) (beq_false (bit x k)))

-- `count_trailing_zeros` is the number of the lowest of d bits that is 1.
pub trailing_least : (d x : ℕ) → count_trailing_zeros d x ≡ least_where d (bit x)
unfolding count_trailing_zeros least_where
trailing_least zero x = refl
trailing_least (suc d) x =
    ap (under (x % 2)) (trailing_least d (x / 2) ∙ least_cong d _ _ (λ k l. sym (bit_suc x k)))
    ∙ at (x % 2) (mod-lt x (omega arith)) _ ∙ ap (λ b. cond b 0 (suc (least_where d (λ k. bit x (suc k))))) (sym (bit_zero x))
  where
    at : (r : ℕ) → r < 2 → (z : ℕ) → under r z ≡ cond (eqb r 1) 0 (suc z)
    at zero l z = refl
    at (suc zero) l z = refl
    at (suc (suc r)) l z = absurd (omega arith)

-- `1 << n` is 2 ^ n, since that is below 2 ^ 64.
pub shifted : (n : ℕ) → n < 64 → 1 * 2 ^ n % 2 ^ 64 ≡ 2 ^ n
shifted n h = shl_exact 1 n 64 (omega arith) (omega arith) ∙ one-mul (2 ^ n)

-- The bits of m * 2 + d: bit 0 is d, and the others are those of m, one place higher.
low_bit : (x m d : ℕ) → x ≡ m * 2 + d → d < 2 → bit x 0 ≡ eqb d 1
low_bit x m d e h = let r : x % 2 ≡ d = omega arith in bit_zero x ∙ ap (λ z. eqb z 1) r

high_bit : (x m d s : ℕ) → x ≡ m * 2 + d → d < 2 → bit x (suc s) ≡ bit m s
high_bit x m d s e h = let q : x / 2 ≡ m = omega arith in bit_suc x s ∙ ap (λ z. bit z s) q

-- The word of the states below n.
pub bit_ones : (n s : ℕ) → bit (2 ^ n - 1) s ≡ ltb s n
bit_ones zero s = bit_nought s ∙ sym (le-ltb s 0 zero-le)
bit_ones (suc n) zero = low_bit (2 ^ suc n - 1) (2 ^ n - 1) 1 (omega (arith, pow-suc 2 n, pow_pos n)) (omega arith) ∙ sym (lt-ltb 0 (suc n) (omega arith))
bit_ones (suc n) (suc s) =
    high_bit (2 ^ suc n - 1) (2 ^ n - 1) 1 s (omega (arith, pow-suc 2 n, pow_pos n)) (omega arith) ∙ bit_ones n s ∙ sym (leb-suc-suc (suc s) n)

-- The word of the state n alone.
pub bit_power : (n s : ℕ) → bit (2 ^ n) s ≡ eqb n s
bit_power zero zero = refl
bit_power zero (suc s) = high_bit 1 0 1 s refl (omega arith) ∙ bit_nought s ∙ sym (eqb-zero-suc s)
bit_power (suc n) zero = low_bit (2 ^ suc n) (2 ^ n) 0 (omega (arith, pow-suc 2 n)) (omega arith) ∙ sym (eqb-suc-zero n)
bit_power (suc n) (suc s) = high_bit (2 ^ suc n) (2 ^ n) 0 s (omega (arith, pow-suc 2 n)) (omega arith) ∙ bit_power n s ∙ sym (eqb-suc-suc n s)

-- x & (x - 1) keeps the bits of x above its lowest: up to that bit x and x - 1 have none in common, and above it they have the same.
abbrev pub Lower : ℕ → ℕ → Type 0
Lower x s = (bit x s && bit (x - 1) s) ≡ (bit x s && any s (bit x))

lower_odd : (m x : ℕ) → x ≡ m * 2 + 1 → (s : ℕ) → Lower x s
unfolding any
lower_odd m x e zero = ap (λ b. bit x 0 && b) (low_bit (x - 1) m 0 (omega arith) (omega arith))
lower_odd m x e (suc s) =
    let up = high_bit x m 1 s e (omega arith) in
    ap₂ ◌&&◌ up (high_bit (x - 1) m 0 s (omega arith) (omega arith)) ∙ twice (bit m s)
    ∙ sym (ap₂ ◌&&◌ up (any_intro (suc s) (bit x) 0 (omega arith) (low_bit x m 1 e (omega arith))))
  where
    twice : (b : Bool) → (b && b) ≡ (b && true)
    twice true = refl
    twice false = refl

lower_even : (m x s : ℕ) → x ≡ m * 2 + 0 → 0 < m → Lower m s → Lower x (suc s)
lower_even m x s e h half =
    let up : (t : ℕ) → bit x (suc t) ≡ bit m t = λ t. high_bit x m 0 t e (omega arith) in
    ap₂ ◌&&◌ (up s) (high_bit (x - 1) (m - 1) 1 s (omega arith) (omega arith)) ∙ half
    ∙ sym (ap₂ ◌&&◌ (up s) (any_first s (bit x) ∙ ap₂ ◌||◌ (low_bit x m 0 e (omega arith)) (any_cong s _ _ (λ t l. up t))))

pub bit_lower : (s x : ℕ) → 0 < x → Lower x s
bit_lower zero x h = at (x % 2) refl
  where
    at : (r : ℕ) → x % 2 ≡ r → Lower x 0
    at zero e = let none = low_bit x (x / 2) 0 (omega arith) (omega arith) in ap (λ b. b && bit (x - 1) 0) none ∙ sym (ap (λ b. b && any 0 (bit x)) none)
    at (suc r) e = lower_odd (x / 2) x (omega arith) 0
bit_lower (suc s) x h = at (x % 2) refl (bit_lower s (x / 2))
  where
    at : (r : ℕ) → x % 2 ≡ r → (0 < x / 2 → Lower (x / 2) s) → Lower x (suc s)
    at zero e half = lower_even (x / 2) x s (omega arith) (omega arith) (half (omega arith))
    at (suc r) e half = lower_odd (x / 2) x (omega arith) (suc s)
