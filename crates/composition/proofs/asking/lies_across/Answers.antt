-- Every state below n is in the set that is asked (`from_every`).
use mathlib.Core.Path.{◌∙◌}
use native.Mathlib.Omega.{arith}
use borrow.Author.Tests.{lt-ltb}
use Rattle.states.specs.Search.{implies, all}
use Rattle.states.specs.Sets.{capacity, has}
use Rattle.states.specs.Relations.{rel}
use Rattle.rules.specs.Words.{word_relation}
use Rattle.composition.proofs.Asked.{from_every}
use Rattle.composition.proofs.asking.lies_across.Goals as goal

pub returns : goal.returns
unfolding word_relation
returns c =
    let n = c.args.n in
    c.included_from.ensures
    ∙ (λ i. all n (λ s. implies (has c.below.result s)
    (all n (λ t. implies (rel n (c.rows_of.ensures i) s t) (rel n (c.rows_of-2.ensures i) s t)))))
    ∙ from_every n _ _ _ (λ s l. c.below.ensures s ∙ rw (lt-ltb s capacity (omega (arith, c.requires)), lt-ltb s n l))
