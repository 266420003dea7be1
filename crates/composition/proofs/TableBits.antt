-- A relation that is given by a test is written row after row.
use Prim.Native.Nat.{ℕ, ◌+◌, ◌*◌, ◌/◌, ◌%◌, ◌^◌, ◌≤◌, ◌<◌}
use mathlib.Core.Bool.{Bool}
use mathlib.Core.List.{List}
use mathlib.Core.Path.{◌≡◌, ap₂}
use native.Mathlib.Nat.{mul_comm, mul-suc}
use native.Mathlib.Omega.{arith}
use lib.Arith.{digits_div, digits_mod}
use lib.ListN.{length}
use Rattle.writer.specs.Writing.{put_bits}
use Rattle.writer.specs.Sets.{put_set}
use Rattle.writer.proofs.Laws.{length_put}
use Rattle.writer.proofs.SetBits.{put_where, set_put}
use Rattle.states.specs.Sets.{bits_where}
use Rattle.states.proofs.Where.{where_same}

-- The bits of a relation over n states are those of its pairs, row after row.
module _ (n : ℕ) (r : ℕ → ℕ → Bool) where
  abbrev pub pairs : ℕ → Bool
  pairs k = r (k / n) (k % n)

  row_bits : (s : ℕ) → bits_where n (λ t. pairs (n * s + t)) ≡ bits_where n (r s)
  row_bits s = where_same n _ _ (λ t under. rw (mul_comm n s) (ap₂ r (digits_div s under) (digits_mod s under)))

  -- One row more.
  pub row_more : (out : List ℕ) (at s : ℕ) → at + n * s + n ≤ 8 * length out → at + n * s + n < 2 ^ 64
      → put_set (put_bits out at (n * s) (bits_where (n * s) pairs)) (at + n * s) n (r s) ≡ put_bits out at (n * (s + 1)) (bits_where (n * (s + 1)) pairs)
  row_more out at s inside fits =
      let before = put_bits out at (n * s) (bits_where (n * s) pairs) in
      let next : n * (s + 1) ≡ n * s + n = omega (arith, mul-suc n s) in
      rw (next, set_put before (at + n * s) n (r s) (omega (arith, length_put out at (n * s) (bits_where (n * s) pairs))) fits, ← row_bits s)
      (put_where pairs out at (n * s) n)
