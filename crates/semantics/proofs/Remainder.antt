-- The remainder of an integer by a size, which a store leaves: a number below the size is its own remainder, and adding a multiple
-- of the size does not change the remainder.
use Prim.Native.Nat.{ℕ, suc, ◌+◌, ◌-◌, ◌*◌, ◌/◌, ◌%◌, ◌<◌}
use native.Mathlib.Nat.{mod-lt, mod-eq_of_lt, div-add-mod', mul-add-mod_self_right}
use native.Mathlib.Omega.{arith}
use borrow.Author.Tests.{ltb-false}
use mathlib.Core.Bool.{Bool, true, false, cond, false≢true}
use mathlib.Core.Path.{◌≡◌, refl, sym, ◌∙◌, ap}
use lib.Dec.{ltb}
use lib.IntN.{ℤ, pos, negsuc, nat_abs, ◌+ℤ◌}
use lib.Signed.{non_neg}
use Rattle.semantics.specs.States.{remainder}

-- With size 3, a store of 3 leaves 0, and a store of −1 leaves 2.
by_three : (remainder (pos 3) 3 ≡ 0) × (remainder (negsuc 0) 3 ≡ 2)
by_three = (refl, refl)

pub remainder_below : (z : ℤ) (size : ℕ) → 0 < size → remainder z size < size
remainder_below (pos n) size more = mod-lt n more
remainder_below (negsuc n) size more = omega arith

-- A value in range is stored as it is.
pub remainder_same : (n size : ℕ) → n < size → remainder (pos n) size ≡ n
remainder_same n size low = mod-eq_of_lt low

-- If −(a + 1) and b together are n, then b is n + a + 1.
taken : (a b n : ℕ) → negsuc a +ℤ pos b ≡ pos n → b ≡ n + suc a
taken a b n = by (ltb b (suc a)) refl
  where
    by : (t : Bool) → ltb b (suc a) ≡ t → cond t (negsuc (suc a - suc b)) (pos (b - suc a)) ≡ pos n → b ≡ n + suc a
    by true low e = absurd (false≢true (ap non_neg e))
    by false past e = omega (arith, ltb-false b (suc a) past, ap nat_abs e)

-- If an integer and k sizes together are n, which is not negative, its remainder is n % size.
pub remainder_lifted : (z : ℤ) (size k n : ℕ) → 0 < size → z +ℤ pos (k * size) ≡ pos n → n % size ≡ remainder z size
remainder_lifted (pos a) size k n more is =
    let whole : n ≡ k * size + a = omega (arith, ap nat_abs is) in
    rw whole (mul-add-mod_self_right k size a)
remainder_lifted (negsuc a) size k n more is =
    let left = size - 1 - a % size in
    let same : suc (a / size) * size + n ≡ k * size + left = omega (arith, taken a (k * size) n is, div-add-mod' a size, mod-lt a more) in
    sym (mul-add-mod_self_right (suc (a / size)) size n) ∙ ap (λ x. x % size) same ∙ mul-add-mod_self_right k size left
    ∙ mod-eq_of_lt (omega arith)
