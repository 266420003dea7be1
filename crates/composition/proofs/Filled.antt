-- Relations over at most as many states as a set can hold: the pairs of rows that are made by a closure, and of a union.
use Prim.Native.Nat.{ℕ, ◌≤◌}
use native.Mathlib.Omega.{arith}
use mathlib.Core.Path.{◌≡◌, ◌∙◌}
use mathlib.Core.Bool.{Bool, ◌&&◌}
use mathlib.Core.List.{List}
use lib.Dec.{ltb}
use borrow.Author.Tests.{lt-ltb}
use Rattle.states.specs.Sets.{capacity, mem, entry_at}
use Rattle.states.specs.Relations.{rel}
use Rattle.states.proofs.Search.{and_left, and_right}
use Rattle.states.proofs.Reach.{Between}
use Rattle.states.proofs.Rows.{join_of, rel_between, rel_pairs, join_between}
use Rattle.search.proofs.Breaches.{absorbed}

module _ (n : ℕ) (most : n ≤ capacity) where
  -- A set can hold every start of a pair.
  held : (f : ℕ → ℕ → Bool) → Between n f → (s t : ℕ) → (ltb s capacity && f s t) ≡ f s t
  held f between s t = absorbed _ _ (λ h. lt-ltb s capacity (omega (arith, between s t h)))

  pub filled_rel : (f : ℕ → ℕ → Bool) (rows : List ℕ) → Between n f → ((s t : ℕ) → mem (entry_at rows s) t ≡ (ltb s capacity && f s t))
      → (s t : ℕ) → rel n rows s t ≡ f s t
  filled_rel f rows between made s t = rel_pairs n f rows between made s t ∙ held f between s t

  pub joined_rel : (a b rows : List ℕ) → ((s t : ℕ) → mem (entry_at rows s) t ≡ (ltb s capacity && join_of n a b s t))
      → (s t : ℕ) → rel n rows s t ≡ join_of n a b s t
  joined_rel a b rows = filled_rel (join_of n a b) rows (join_between n a b)

-- Pairs of a relation, with further tests.
pub part_between : (n : ℕ) (rows : List ℕ) (p : ℕ → Bool) (q z : ℕ → ℕ → Bool) → Between n (λ s t. p s && rel n rows s t && q s t && z s t)
part_between n rows p q z s t e =
    let first = and_left (p s && rel n rows s t && q s t) (z s t) e in
    rel_between n rows s t (and_right (p s) _ (and_left (p s && rel n rows s t) (q s t) first))
