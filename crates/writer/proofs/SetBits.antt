-- Sets of states that are written word by word, and those that fit.
use Prim.Native.Nat.{ℕ, ◌+◌, ◌-◌, ◌*◌, ◌^◌, ◌≤◌, ◌<◌, min}
use mathlib.Core.Bool.{Bool}
use mathlib.Core.List.{List}
use mathlib.Core.Path.{◌≡◌, ◌∙◌}
use native.Mathlib.Omega.{arith}
use lib.ListN.{length}
use lib.Pow.{high, low}
use Rattle.states.specs.Sets.{bits_where}
use Rattle.states.proofs.Where.{where_below, where_join}
use Rattle.writer.specs.Writing.{put_bits, put_field}
use Rattle.writer.specs.Sets.{put_set}
use Rattle.writer.proofs.Laws.{length_put, put_join, has_room_lem, field_put}

-- Bits that are given by a test: the first a, and then b more.
pub put_where : (p : ℕ → Bool) (out : List ℕ) (at a b : ℕ)
    → put_bits (put_bits out at a (bits_where a p)) (at + a) b (bits_where b (λ j. p (a + j))) ≡ put_bits out at (a + b) (bits_where (a + b) p)
put_where p out at a b =
    let small = where_below b (λ j. p (a + j)) in
    rw (put_join out at a b (bits_where (a + b) p), where_join p a b, high (bits_where a p) b small, low (bits_where a p) b small)

-- A set that fits is written.
pub set_put : (s : List ℕ) (at n : ℕ) (p : ℕ → Bool) → at + n ≤ 8 * length s → at + n < 2 ^ 64 → put_set s at n p ≡ put_bits s at n (bits_where n p)
unfolding put_set
set_put s at n p inside fits = rw (has_room_lem s at n inside fits)

-- The bits of n states that the first k words have.
abbrev pub put_words : List ℕ → ℕ → ℕ → (ℕ → Bool) → ℕ → List ℕ
put_words out at n p k = put_bits out at (min (64 * k) n) (bits_where (min (64 * k) n) p)

-- One word more.
pub word_more : (out : List ℕ) (at n : ℕ) (p : ℕ → Bool) (k : ℕ) → 64 * k < n → at + n ≤ 8 * length out → at + n < 2 ^ 64
    → put_field (put_words out at n p k) (at + 64 * k) (min 64 (n - 64 * k)) (bits_where (min 64 (n - 64 * k)) (λ j. p (64 * k + j))) ≡ put_words out at n p (k + 1)
word_more out at n p k more inside fits =
    let w = min 64 (n - 64 * k) in
    let first : min (64 * k) n ≡ 64 * k = omega arith in
    let next : min (64 * (k + 1)) n ≡ 64 * k + w = omega arith in
    rw (first, next)
    (field_put (put_bits out at (64 * k) (bits_where (64 * k) p)) (at + 64 * k) w _ (omega arith) (omega arith)
    (omega (arith, length_put out at (64 * k) (bits_where (64 * k) p))) (omega arith)
    ∙ put_where p out at (64 * k) w)
