-- The magnitude of a sum or a difference is at most the sum of the magnitudes plus 1, so the result fits. By cases on the signs.
use Prim.Native.Nat.{ℕ, zero, suc, ◌+◌, ◌≤◌}
use native.Mathlib.Omega.{arith}
use lib.Dec.{ltb}
use lib.IntN.{ℤ, pos, negsuc, sub_ℕ, ◌+ℤ◌, ◌-ℤ◌}
use lib.Signed.{mag}
use Rattle.handler.proofs.Heads.{by_test}

mag_sub : (a b k : ℕ) → a ≤ k → b ≤ suc k → mag (sub_ℕ a b) ≤ k
mag_sub a b k ha hb = by_test (λ z. mag z ≤ k) (ltb a b) _ _ (λ e. omega arith) (λ e. omega arith)

pub mag_add : (x y : ℤ) → mag (x +ℤ y) ≤ mag x + mag y + 1
mag_add (pos a) (pos b) = omega arith
mag_add (pos a) (negsuc b) = mag_sub a (suc b) (a + b + 1) (omega arith) (omega arith)
mag_add (negsuc a) (pos b) = mag_sub b (suc a) (a + b + 1) (omega arith) (omega arith)
mag_add (negsuc a) (negsuc b) = omega arith

mag_neg_add : (x : ℤ) (b : ℕ) → mag (x +ℤ pos (suc b)) ≤ mag x + b + 1
mag_neg_add (pos a) b = omega arith
mag_neg_add (negsuc a) b = mag_sub (suc b) (suc a) (a + b + 1) (omega arith) (omega arith)

pub mag_minus : (x y : ℤ) → mag (x -ℤ y) ≤ mag x + mag y + 1
mag_minus x (pos zero) = omega (arith, mag_add x (pos zero))
mag_minus x (pos (suc b)) = omega (arith, mag_add x (negsuc b))
mag_minus x (negsuc b) = mag_neg_add x b
