-- Bounded quantifiers over the states 0 to n − 1, and the search for the least states that break a condition.
use Rattle.std.specs.Prelude.{ℕ, zero, suc, ◌+◌, Bool, true, false, cond, not, ◌&&◌, ◌||◌, List, [], ◌∷◌}
use Rattle.std.proofs.Math.Option.{Option, none, some}

unfoldable pub implies : Bool → Bool → Bool
implies a b = not a || b

-- Whether p holds at every state below n.
unfoldable pub all : ℕ → (ℕ → Bool) → Bool
all zero p = true
all (suc n) p = all n p && p n

-- Whether p holds at some state below n.
unfoldable pub any : ℕ → (ℕ → Bool) → Bool
any zero p = false
any (suc n) p = any n p || p n

-- How many states below n p holds at.
unfoldable pub count : ℕ → (ℕ → Bool) → ℕ
count zero p = 0
count (suc n) p = count n p + cond (p n) 1 0

-- The least state below n at which p holds; n if there is none.
unfoldable pub least_where : ℕ → (ℕ → Bool) → ℕ
least_where zero p = zero
least_where (suc n) p = cond (p zero) zero (suc (least_where n (λ s. p (suc s))))

-- The result of the search for a breach of a condition: none if the condition holds, else the states that break it, in the
-- order in which the condition names them.
abbrev pub Search : Type 0
Search = Option (List ℕ)

unfoldable pub must : Bool → Search
must b = cond b none (some [])

unfoldable pub given : Bool → Search → Search
given b found = cond b found none

unfoldable pub named : ℕ → Search → Search
named s none = none
named s (some rest) = some (s ∷ rest)

unfoldable pub or_else : Search → Search → Search
or_else none next = next
or_else (some found) next = some found

-- The breach at the least state below n that has one, with that state named first.
unfoldable pub each : ℕ → (ℕ → Search) → Search
each zero f = none
each (suc n) f = or_else (each n f) (named n (f n))

-- Whether a condition holds: the search for a breach finds none.
unfoldable pub holds : Search → Bool
holds none = true
holds (some found) = false
