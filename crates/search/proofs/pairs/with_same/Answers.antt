-- Row s is the row of the relation, joined with s.
use Prim.Native.Nat.{ℕ, ◌<◌}
use mathlib.Core.Path.{◌≡◌, refl, ◌∙◌}
use mathlib.Core.Logic.{⊎_elim}
use mathlib.Core.Bool.{Bool, true, false, ◌&&◌, ◌||◌, and_assoc}
use mathlib.Core.List.{List}
use lib.Dec.{ltb, eqb}
use borrow.Author.Rules.{rules}
use borrow.Author.Tests.{lt-ltb, ltb-true, eqb-true}
use Rattle.states.specs.Sets.{capacity}
use Rattle.states.specs.Relations.{rel}
use Rattle.states.proofs.Search.{and_left, and_right, and_both, or_left, or_right, or_cases, bool_ext}
use Rattle.states.proofs.Rows.{rel_between, rel_filled}
use Rattle.states.proofs.EntryLaws.{rows_mem}
use Rattle.search.proofs.pairs.with_same.Goals as goal

abbrev filling : ℕ → List ℕ → ℕ → ℕ → Bool
filling n rows s t = ltb t capacity && eqb s t || rel n rows s t

-- The bounds of t follow from those of s, or from the pair.
bounded : (n : ℕ) (rows : List ℕ) (s t : ℕ) → s < capacity → s < n → (ltb t n && filling n rows s t) ≡ (eqb s t || rel n rows s t)
bounded n rows s t small l = bool_ext _ _ there (λ h. ⊎_elim same pair (or_cases (eqb s t) _ h))
  where
    there : (ltb t n && filling n rows s t) ≡ true → (eqb s t || rel n rows s t) ≡ true
    there h =
        ⊎_elim (λ e. or_left _ _ (and_right (ltb t capacity) _ e)) (or_right (eqb s t) _)
        (or_cases (ltb t capacity && eqb s t) _ (and_right (ltb t n) _ h))

    same : eqb s t ≡ true → (ltb t n && filling n rows s t) ≡ true
    same e = let i = eqb-true s t e in and_both _ _ (lt-ltb t n (rw i at l)) (or_left _ _ (and_both _ _ (lt-ltb t capacity (rw i at small)) e))

    pair : rel n rows s t ≡ true → (ltb t n && filling n rows s t) ≡ true
    pair e = and_both _ _ (lt-ltb t n (rel_between n rows s t e).1) (or_right (ltb t capacity && eqb s t) _ e)

and_given : (a b c : Bool) → (a ≡ true → b ≡ c) → (a && b) ≡ (a && c)
and_given true b c h = h refl
and_given false b c h = refl

pub returns : goal.returns
returns c s t =
    let a = c.args in
    rel_filled a.n _ _ (rows_mem _ (filling a.n a.rows.now) _ c.rows_by.ensures (λ s l set given. search rules)) s t
    ∙ and_assoc (ltb s capacity && ltb s a.n) _ _
    ∙ and_given (ltb s capacity && ltb s a.n) _ _ (λ h. bounded a.n a.rows.now s t
    (ltb-true s capacity (and_left _ (ltb s a.n) h)) (ltb-true s a.n (and_right (ltb s capacity) _ h)))
