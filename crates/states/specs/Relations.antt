-- Relations between states, as rows: row s is entry s of the words, the set of the ends t of the pairs (s,t).
use Rattle.std.specs.Prelude.{ℕ, zero, suc, ◌≡◌, ◌<◌, ◌≤◌, Bool, true, false, ◌&&◌, ◌||◌, List, ltb, eqb}
use Rattle.states.specs.Search.{any}
use Rattle.states.specs.Sets.{mem, has, entry_at}
use Rattle.states.specs.declared.StateSet.{StateSet}

-- Whether (s,t) is a pair of the relation over n states that the rows hold.
unfoldable pub rel : ℕ → List ℕ → ℕ → ℕ → Bool
rel n rows s t = ltb s n && ltb t n && mem (entry_at rows s) t

-- Rows of which each of the first k holds a set that was given for it, and no other row has a state.
pub record RowsGiven (gives : ℕ → StateSet → Type 0) (k : ℕ) (rows : List ℕ) : Type 0 where
  pub hold : (s : ℕ) → s < k → (set : StateSet) × gives s set × ((t : ℕ) → mem (entry_at rows s) t ≡ has set t)
  pub rest : (s : ℕ) → k ≤ s → (t : ℕ) → mem (entry_at rows s) t ≡ false

-- The states reached from a set of starts by zero or more pairs of a relation.
pub data Reached (from : ℕ → Bool) (r : ℕ → ℕ → Bool) : ℕ → Type 0 where
  here : {s : ℕ} → from s ≡ true → Reached from r s
  more : {s t : ℕ} → Reached from r s → r s t ≡ true → Reached from r t

-- Condition 66's reach: whether t is reached from s within so many rounds, each of which adds the ends of all pairs that start in a
-- state already reached. N rounds are run.
unfoldable pub within : ℕ → ℕ → (ℕ → ℕ → Bool) → ℕ → ℕ → Bool
within n zero r s t = eqb s t
within n (suc k) r s t = within n k r s t || any n (λ u. within n k r s u && r u t)

unfoldable pub reach : ℕ → (ℕ → ℕ → Bool) → ℕ → ℕ → Bool
reach n r s t = within n n r s t
