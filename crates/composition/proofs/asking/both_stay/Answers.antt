-- The set has the states of the met P, and both G are asked of it.
use mathlib.Core.Bool.{◌&&◌}
use mathlib.Core.Path.{◌∙◌, ap, ap₂, fun_ext}
use Rattle.rules.specs.Words.{word_relation}
use Rattle.joint.specs.Composing.{stays_in}
use Rattle.composition.proofs.asking.both_stay.Goals as goal

pub returns : goal.returns
unfolding stays_in
returns c =
    let a = c.args in
    let met = fun_ext (λ s. c.meet-p.ensures s ∙ ap₂ ◌&&◌ (c.set_at.ensures s) (c.set_at-2.ensures s)) in
    ap₂ ◌&&◌ (c.leads_into.ensures ∙ ap (λ p. stays_in a.n p (word_relation a.n a.first.now a.a.g)) met)
    (c.leads_into-2.ensures ∙ ap (λ p. stays_in a.n p (word_relation a.n a.second.now a.b.g)) met)
