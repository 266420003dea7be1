-- One set lies in the other, and this is the same over all states that a set can hold as over the n.
use mathlib.Core.Path.{◌∙◌, sym}
use Rattle.states.proofs.Search.{holds_must}
use Rattle.semantics.specs.Conditions.{set_lies_in, c70}
use Rattle.rules.proofs.Searches.{small_all}
use Rattle.rules.proofs.Words.{set_small}
use Rattle.rules.proofs.weaken.pre_within.Goals as goal

pub returns : goal.returns
unfolding c70 set_lies_in
returns c = let a = c.args in
    simp (c.set_at.ensures, c.set_at-2.ensures) at c.included.ensures
    ∙ small_all a.n _ _ (set_small a.n a.work.now a.own.p) ∙ sym (holds_must _)
