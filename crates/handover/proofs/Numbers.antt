-- Every number up to 4294967295 in decimal, as the program prints it, is read as that number.
use Prim.Native.Nat.{ℕ, zero, suc, ◌+◌, ◌-◌, ◌*◌, ◌/◌, ◌%◌, ◌≤◌, ◌<◌}
use mathlib.Core.Bool.{Bool, true, false}
use mathlib.Core.List.{List, [], ◌∷◌, ◌++◌}
use mathlib.Core.Path.{◌≡◌, refl, ap, ◌∙◌}
use native.Mathlib.Omega.{arith}
use borrow.Author.Tests.{le-ltb, ltb-true, ltb-false, ne_eqb}
use lib.Dec.{ltb}
use lib.ListN.{length, length-append}
use Rattle.std.specs.Prelude.{Option, Some, None, option_and_then}
use Rattle.report.specs.Line.{decimal}
use Rattle.report.proofs.Decimal.{decimal_one, decimal_more}
use Rattle.handover.specs.Number.{with_digit, number_from, number_in}

-- The last digit is added to the number before it.
as_it_is : (o : Option ℕ) → option_and_then (λ n. Some n) o ≡ o
as_it_is (Some n) = refl
as_it_is None = refl

last_digit : (n : ℕ) (front : List ℕ) (byte : ℕ) → number_from n (front ++ (byte ∷ [])) ≡ option_and_then (λ m. with_digit m byte) (number_from n front)
unfolding number_from
last_digit n [] byte = as_it_is (with_digit n byte)
last_digit n (x ∷ rest) byte = by (with_digit n x) (λ m. last_digit m rest byte)
  where
    by : (o : Option ℕ) → ((m : ℕ) → number_from m (rest ++ (byte ∷ [])) ≡ option_and_then (λ k. with_digit k byte) (number_from m rest))
        → option_and_then (λ m. number_from m (rest ++ (byte ∷ []))) o ≡ option_and_then (λ k. with_digit k byte) (option_and_then (λ m. number_from m rest) o)
    by (Some m) on = on m
    by None on = refl

digit_added : (n k : ℕ) → k < 10 → n * 10 + k ≤ 4294967295 → with_digit n (48 + k) ≡ Some (n * 10 + k)
unfolding with_digit
digit_added n k small fits =
    let e : 48 + k - 48 ≡ k = omega arith in
    rw (e, le-ltb (48 + k) 48 (omega arith), le-ltb 57 (48 + k) (omega arith), le-ltb 4294967295 (n * 10 + k) fits)

-- A number of one digit, and one of more.
one_digit : (n : ℕ) → n < 10 → number_from 0 (decimal n) ≡ Some n
unfolding number_from
one_digit n h =
    rw (decimal_one n h, digit_added 0 (n % 10) (omega arith) (omega arith)) (ap Some (omega arith))

more_digits : (n : ℕ) → 10 ≤ n → n ≤ 4294967295 → number_from 0 (decimal (n / 10)) ≡ Some (n / 10) → number_from 0 (decimal n) ≡ Some n
more_digits n h fits front =
    ap (number_from 0) (decimal_more n h) ∙ last_digit 0 (decimal (n / 10)) (48 + n % 10)
    ∙ rw (front, digit_added (n / 10) (n % 10) (omega arith) (omega arith)) (ap Some (omega arith))

from_digits : (fuel n : ℕ) → n ≤ fuel → n ≤ 4294967295 → number_from 0 (decimal n) ≡ Some n
from_digits zero n h fits = one_digit n (omega arith)
from_digits (suc fuel) n h fits = by (ltb n 10) refl (λ more. from_digits fuel (n / 10) (omega arith) (omega arith))
  where
    by : (b : Bool) → ltb n 10 ≡ b → (10 ≤ n → number_from 0 (decimal (n / 10)) ≡ Some (n / 10)) → number_from 0 (decimal n) ≡ Some n
    by true e front = one_digit n (ltb-true n 10 e)
    by false e front = let more = ltb-false n 10 e in more_digits n more fits (front more)

-- There is at least one digit.
some_digit : (n : ℕ) → 1 ≤ length (decimal n)
some_digit n = by (ltb n 10) refl
  where
    by : (b : Bool) → ltb n 10 ≡ b → 1 ≤ length (decimal n)
    by true e = rw (decimal_one n (ltb-true n 10 e)) (omega arith)
    by false e = rw (decimal_more n (ltb-false n 10 e), length-append) (omega arith)

pub read_back : (n : ℕ) → n ≤ 4294967295 → number_in (decimal n) ≡ Some n
unfolding number_in
read_back n fits = rw (ne_eqb (length (decimal n)) 0 (λ e. omega (arith, some_digit n))) (from_digits n n (omega arith) fits)
