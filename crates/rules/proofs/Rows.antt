-- Searches through the pairs that rows hold.
use Prim.Native.Nat.{ℕ, ◌<◌}
use mathlib.Core.Path.{◌≡◌, sym, ap, ◌∙◌}
use mathlib.Core.Bool.{Bool, ◌&&◌, ◌||◌}
use lib.Dec.{ltb, eqb}
use borrow.Author.Tests.{lt-ltb}
use Rattle.states.specs.Sets.{capacity}
use Rattle.states.specs.Search.{implies, all, must, holds}
use Rattle.states.proofs.Search.{all_cong}
use Rattle.semantics.specs.Conditions.{in_set}
use Rattle.search.proofs.Breaches.{eqb_turned}
use Rattle.rules.proofs.Searches.{within_holds, holds_in_set}

-- Whether the pairs that start in a set are all in another relation.
pub pairs_within : (n : ℕ) (p : ℕ → Bool) (a b : ℕ → ℕ → Bool)
    → all n (λ s. implies (p s) (all n (λ t. implies (a s t) (b s t)))) ≡ holds (in_set n p (λ s. in_set n (a s) (λ t. must (b s t))))
pairs_within n p a b = all_cong n _ _ (λ s l. ap (implies (p s)) (within_holds n (a s) (b s))) ∙ sym (holds_in_set n p _)

-- The set of s alone, joined with others, at a state that a set can hold.
pub or_itself : (s t : ℕ) (others : Bool) → t < capacity → (ltb t capacity && eqb s t || others) ≡ (eqb t s || others)
or_itself s t others low =
    rw (lt-ltb t capacity low)
    (ap (λ b. b || others) (eqb_turned s t))
