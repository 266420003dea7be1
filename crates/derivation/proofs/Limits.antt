-- The work words of any numbers of states and tables, by cases of the limits.
use Prim.Native.Nat.{ℕ, ◌≤◌}
use mathlib.Core.Bool.{true, false, ◌&&◌}
use mathlib.Core.List.{List}
use mathlib.Core.Path.{◌≡◌}
use borrow.Author.Tests.{leb-true, le-leb}
use lib.Dec.{leb}
use Rattle.states.specs.Sets.{capacity}
use Rattle.states.proofs.Search.{and_left, and_right}
use Rattle.derivation.specs.Tables.{most_tables, are_tables, table_word, limited_word}

module _ (n sets relations : ℕ) where
  pub within_limits_lem : are_tables n sets relations ≡ true → (n ≤ capacity) × (sets ≤ most_tables) × (relations ≤ most_tables)
  unfolding are_tables
  within_limits_lem e =
      let both = and_left (leb n capacity && leb sets most_tables) (leb relations most_tables) e in (
        leb-true n capacity (and_left (leb n capacity) (leb sets most_tables) both),
        leb-true sets most_tables (and_right (leb n capacity) (leb sets most_tables) both),
        leb-true relations most_tables (and_right (leb n capacity && leb sets most_tables) (leb relations most_tables) e),
      )

  pub limits_within : n ≤ capacity → sets ≤ most_tables → relations ≤ most_tables → are_tables n sets relations ≡ true
  unfolding are_tables
  limits_within few few_sets few_relations = rw (le-leb n capacity, le-leb sets most_tables, le-leb relations most_tables)

  module _ (bytes : List ℕ) (j : ℕ) where
    pub limited_word_lem : are_tables n sets relations ≡ true → limited_word bytes n sets relations j ≡ table_word bytes n sets relations j
    unfolding limited_word
    limited_word_lem e = rw e

    pub no_word : are_tables n sets relations ≡ false → limited_word bytes n sets relations j ≡ 0
    unfolding limited_word
    no_word e = rw e
