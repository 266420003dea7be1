-- s and the ends of W from s, met with p and the states where the test is false, lie in row s of Q.
use mathlib.Core.Path.{◌∙◌, ap, ap₂}
use mathlib.Core.Bool.{◌&&◌, ◌||◌}
use Rattle.states.specs.Search.{implies}
use Rattle.states.specs.Sets.{capacity, has}
use Rattle.states.proofs.Search.{all_cong}
use Rattle.rules.proofs.Rows.{or_itself}
use Rattle.rules.proofs.iteration.exit_satisfies_post_at.Goals as goal

pub returns : goal.returns
returns c =
    let a = c.args in
    c.included.ensures
    ∙ all_cong capacity _ _ (λ t l. ap₂ implies
    (c.meet-2.ensures t ∙ ap (λ b. b && has a.falsity t) (c.meet.ensures t ∙ ap (λ b. b && has a.p t)
    (c.join-rounds.ensures t ∙ ap₂ ◌||◌ (c.single.ensures t) (c.row_at.ensures t) ∙ or_itself a.s t _ l)))
    (c.row_at-2.ensures t))
