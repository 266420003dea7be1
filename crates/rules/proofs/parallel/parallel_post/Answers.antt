-- 66 at each state, whose reach by the rows is the whole reach.
use Rattle.std.proofs.Common.{rules}
use Prim.Native.Nat.{ℕ}
use mathlib.Core.Path.{◌≡◌, ◌∙◌, ap, fun_ext}
use mathlib.Core.Bool.{Bool, ◌&&◌}
use mathlib.Core.List.{List}
use lib.Dec.{ltb}
use Rattle.states.specs.Sets.{capacity}
use Rattle.states.specs.Search.{Search, must, given, holds}
use Rattle.states.specs.Relations.{rel, reach}
use Rattle.states.proofs.Search.{each_cong}
use Rattle.semantics.specs.Conditions.{in_set, c66}
use Rattle.semantics.specs.declared.Names.{Names}
use Rattle.rules.specs.Words.{word_set, word_relation}
use Rattle.rules.proofs.Searches.{each_of_range}
use Rattle.search.proofs.Breaches.{given_cong}
use Rattle.rules.proofs.Words.{set_small, anyone, anyone_reach}
use Rattle.rules.proofs.parallel.parallel_post.Goals as goal

-- The condition at a state, with the reach by given changes; and the changes that 66 names.
abbrev at : ℕ → List ℕ → Names → Names → Names → (ℕ → ℕ → Bool) → ℕ → Search
at n work own left right moves s =
    given (word_set n work own.p s) (in_set n (λ t. word_relation n work left.q s t && word_relation n work right.q s t && reach n moves s t)
    (λ t. must (word_relation n work own.q s t)))

abbrev whole : ℕ → List ℕ → Names → Names → Names → ℕ → ℕ → Bool
whole n work own left right = anyone n work own.r left.g right.g

same_reach : (n : ℕ) (work : List ℕ) (own left right : Names) (rows : List ℕ)
    → ((s t : ℕ) → rel n rows s t ≡ (ltb s capacity && whole n work own left right s t))
    → (s : ℕ) → at n work own left right (rel n rows) s ≡ at n work own left right (whole n work own left right) s
same_reach n work own left right rows same s =
    given_cong _ _ _ (λ e. ap (λ p. in_set n p (λ t. must (word_relation n work own.q s t)))
    (fun_ext (λ t. ap (λ b. word_relation n work left.q s t && word_relation n work right.q s t && b)
    (anyone_reach n work own.r left.g right.g rows same s t (set_small n work own.p s e).0))))

pub returns : goal.returns
unfolding c66 in_set
returns c = let a = c.args in
    each_of_range _ (at a.n a.work.now a.own a.left a.right (rel a.n c.changes-moves.result)) _ _ c.all.ensures.ran (λ x b q k. search rules)
    ∙ ap holds (each_cong _ _ _ (λ s l. same_reach a.n a.work.now a.own a.left a.right _ c.changes-moves.ensures s))
