-- Numbers by first mention: read back through the lists they give the derivation, and each names a table of the lists.
use Prim.Native.Nat.{ℕ, ◌*◌, ◌^◌, ◌≤◌, ◌<◌}
use mathlib.Core.List.{List}
use mathlib.Core.Path.{◌≡◌, ◌∙◌}
use native.Mathlib.Omega.{arith}
use lib.ListN.{length, get_or}
use Rattle.bits.proofs.Laws.{bits_below}
use Rattle.semantics.specs.Derivations.{Derivation}
use Rattle.derivation.specs.Tables.{set_at, row_at}
use Rattle.derivation.proofs.NodeTable.{Known, names_known}
use Rattle.form.specs.Members.{rename, set_members, relation_members, by_members}
use Rattle.form.specs.Mentions.{sets_of, relations_of, in_order, place_in, distinct}
use Rattle.form.specs.Form.{sets_in, relations_in, numbered}
use Rattle.form.proofs.Mentions.{All, place_below, place_back, in_distinct, all_distinct}
use Rattle.form.proofs.EveryName.{known_sets, known_relations}
use Rattle.form.proofs.Alike.{few_mapped}
use Rattle.form.proofs.Renaming.{rename_rename, rename_none, rename_same, known_renamed, sets_renamed, relations_renamed, all_sets_renamed, all_relations_renamed}

-- Each element is among the distinct ones, so its place is below their number and gives it back.
all_placed : (xs : List ℕ) → All (λ x. place_in (distinct xs) x < length (distinct xs)) xs
all_placed xs x h = place_below (distinct xs) x (in_distinct xs x ∙ h)

all_back : (xs : List ℕ) → All (λ x. get_or (distinct xs) (place_in (distinct xs) x) 0 ≡ x) xs
all_back xs x h = place_back (distinct xs) x (in_distinct xs x ∙ h)

module _ (x : Derivation) where
  pub filled : rename (λ i. get_or (sets_in x) i 0) (λ i. get_or (relations_in x) i 0) (numbered x) ≡ x
  unfolding numbered sets_in relations_in
  filled =
      rename_rename _ _ _ _ x
      ∙ rename_same _ _ (λ i. i) (λ i. i) x (all_back (in_order sets_of x)) (all_back (in_order relations_of x))
      ∙ rename_none x

  pub numbered_known : Known (length (sets_in x)) (length (relations_in x)) (numbered x)
  unfolding numbered sets_in relations_in
  numbered_known = known_renamed _ _ x _ _ (all_placed (in_order sets_of x)) (all_placed (in_order relations_of x))

  -- What holds of every table that x names holds of every table of the lists.
  pub all_sets_in : (P : ℕ → Type 0) → All P (in_order sets_of x) → All P (sets_in x)
  unfolding sets_in
  all_sets_in P all = all_distinct P (in_order sets_of x) all

  pub all_relations_in : (P : ℕ → Type 0) → All P (in_order relations_of x) → All P (relations_in x)
  unfolding relations_in
  all_relations_in P all = all_distinct P (in_order relations_of x) all

  -- The root names a set and a relation, so there is at least one of each.
  pub some_set : 1 ≤ length (sets_in x)
  some_set = omega (arith, (names_known _ _ (numbered x) numbered_known).P-below)

  pub some_relation : 1 ≤ length (relations_in x)
  some_relation = omega (arith, (names_known _ _ (numbered x) numbered_known).R-below)

-- A derivation by its members that was read over n states, with so many sets and relations.
module _ (bytes : List ℕ) (n sets relations : ℕ) (d : Derivation) (known : Known sets relations d) where
  pub no_more_sets : length (sets_in (by_members bytes n sets d)) ≤ sets
  unfolding sets_in by_members
  no_more_sets = rw (sets_renamed _ _ d) (few_mapped (set_members bytes n) sets _ (known_sets sets relations d known))

  pub no_more_relations : length (relations_in (by_members bytes n sets d)) ≤ relations
  unfolding relations_in by_members
  no_more_relations =
      rw (relations_renamed _ _ d) (few_mapped (relation_members bytes n sets) relations _ (known_relations sets relations d known))

-- Members are numbers of n bits for a set, and of n * n bits for a relation.
module _ (bytes : List ℕ) (n sets : ℕ) (d : Derivation) where
  pub sets_fit : All (λ v. v < 2 ^ n) (in_order sets_of (by_members bytes n sets d))
  unfolding by_members set_members
  sets_fit = all_sets_renamed _ _ d (λ v. v < 2 ^ n) (λ i h. bits_below bytes (set_at n i) n)

  pub relations_fit : All (λ v. v < 2 ^ (n * n)) (in_order relations_of (by_members bytes n sets d))
  unfolding by_members relation_members
  relations_fit = all_relations_renamed _ _ d (λ v. v < 2 ^ (n * n)) (λ r h. bits_below bytes (row_at n sets r 0) (n * n))
