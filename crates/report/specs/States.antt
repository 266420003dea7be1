-- The states that a refusal names as one number, for hosts that call over the C interface.
use Rattle.std.specs.Prelude.{ℕ, ◌+◌, ◌*◌, ◌/◌, ◌%◌, ◌^◌, List, [], ◌∷◌, length, get_or, take, Ok, Err}
use Rattle.search.specs.Named.{listed}
use Rattle.checker.specs.Verdicts.{Verdict}

-- The states of a verdict, in the order in which the condition names them; an accepted pair has none.
unfoldable pub states_of : Verdict → List ℕ
states_of (Ok n) = []
states_of (Err f) = listed f.states

-- How many there are, and then up to three states of 8 bits each, the first in the lowest.
unfoldable pub states_number : List ℕ → ℕ
states_number states = length states * 2 ^ 24 + get_or states 0 0 + 2 ^ 8 * get_or states 1 0 + 2 ^ 16 * get_or states 2 0

-- The states that a number encodes.
unfoldable pub states_decoded : ℕ → List ℕ
states_decoded code = take (code / 2 ^ 24) (code % 2 ^ 8 ∷ code / 2 ^ 8 % 2 ^ 8 ∷ code / 2 ^ 16 % 2 ^ 8 ∷ [])
