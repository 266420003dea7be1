-- A number in decimal: digits only, at least one, and at most 4294967295.
use Rattle.std.specs.Prelude.{ℕ, ◌+◌, ◌-◌, ◌*◌, cond, Option, Some, None, option_and_then, List, [], ◌∷◌, ltb, eqb, length}

-- The number that has one digit more. The digits are the bytes 48 to 57.
unfoldable pub with_digit : ℕ → ℕ → Option ℕ
with_digit n byte =
    let next = n * 10 + (byte - 48) in
    cond (ltb byte 48) None (cond (ltb 57 byte) None (cond (ltb 4294967295 next) None (Some next)))

-- A number and the digits after it.
unfoldable pub number_from : ℕ → List ℕ → Option ℕ
number_from n [] = Some n
number_from n (byte ∷ rest) = option_and_then (λ next. number_from next rest) (with_digit n byte)

-- What a whole text says.
unfoldable pub number_in : List ℕ → Option ℕ
number_in text = cond (eqb (length text) 0) None (number_from 0 text)
