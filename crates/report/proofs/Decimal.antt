-- A number in decimal: its last digit, the digits before it, and how many there are. More fuel than n changes nothing.
use Prim.Native.Nat.{ℕ, zero, suc, ◌+◌, ◌/◌, ◌%◌, ◌^◌, ◌≤◌, ◌<◌}
use mathlib.Core.Path.{◌≡◌}
use mathlib.Core.Bool.{Bool, true, false, cond}
use mathlib.Core.List.{List, [], ◌∷◌, ◌++◌}
use native.Mathlib.Nat.{pow-suc, div-lt_iff_lt-mul}
use native.Mathlib.Omega.{arith}
use lib.ListN.{length, length-append}
use lib.Dec.{ltb}
use borrow.Author.Tests.{lt-ltb, le-ltb}
use Rattle.report.specs.Line.{digits, decimal}

enough : (j k n : ℕ) → n ≤ j → n ≤ k → digits (suc j) n ≡ digits (suc k) n
unfolding digits
enough zero k n hj hk = rw (lt-ltb n 10 (omega arith))
enough (suc j) zero n hj hk = rw (lt-ltb n 10 (omega arith))
enough (suc j) (suc k) n hj hk = rw (enough j k (n / 10) (omega arith) (omega arith))

-- A number below 10 is its last digit.
pub decimal_one : (n : ℕ) → n < 10 → decimal n ≡ (48 + n % 10) ∷ []
unfolding decimal digits
decimal_one n h = rw (lt-ltb n 10 h)

-- Any other number has the digits of n / 10 before its last.
pub decimal_more : (n : ℕ) → 10 ≤ n → decimal n ≡ decimal (n / 10) ++ ((48 + n % 10) ∷ [])
unfolding decimal digits
decimal_more zero h = absurd (omega arith)
decimal_more (suc m) h = rw (le-ltb (suc m) 10 h, enough m (suc m / 10) (suc m / 10) (omega arith) (omega arith))

one_more : (b : Bool) (front : List ℕ) (digit : ℕ) → length (cond b [] front ++ (digit ∷ [])) ≤ length front + 1
one_more true front digit = omega arith
one_more false front digit = rw length-append (omega arith)

short : (k fuel n : ℕ) → n < 10 ^ suc k → length (digits fuel n) ≤ suc k
unfolding digits
short k zero n h = omega arith
short zero (suc fuel) n h = rw (lt-ltb n 10 h) (omega arith)
short (suc k) (suc fuel) n h =
    omega (
      arith,
      one_more (ltb n 10) (digits fuel (n / 10)) (48 + n % 10),
      short k fuel (n / 10) ((div-lt_iff_lt-mul (omega arith)).1 (rw pow-suc at h)),
    )

-- A number that a usize can hold has at most 20 digits.
pub decimal_short : (n : ℕ) → n < 2 ^ 64 → length (decimal n) ≤ 20
unfolding decimal
decimal_short n h = short 19 (suc n) n (omega arith)

-- One that a u32 can hold has at most 10.
pub decimal_short_32 : (n : ℕ) → n < 2 ^ 32 → length (decimal n) ≤ 10
unfolding decimal
decimal_short_32 n h = short 9 (suc n) n (omega arith)
