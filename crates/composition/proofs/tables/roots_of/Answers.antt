-- Each table is made of those of both roots.
use Prim.Native.Nat.{◌≤◌}
use mathlib.Core.Path.{◌∙◌, ap₂}
use mathlib.Core.Bool.{◌&&◌, ◌||◌}
use Rattle.states.specs.Sets.{capacity, has}
use Rattle.states.specs.Relations.{rel, reach}
use Rattle.rules.specs.Words.{word_relation}
use Rattle.composition.proofs.Roots.{joint}
use Rattle.composition.proofs.tables.roots_of.Goals as goal

pub returns : goal.returns
unfolding word_relation
returns c =
    let n = c.args.n in
    let most : n ≤ capacity = c.requires in
    joint n _ _ _ _ (λ s. c.meet-p.ensures s ∙ ap₂ ◌&&◌ (c.set_at.ensures s) (c.set_at-2.ensures s))
    (λ s t. c.met-r.ensures most s t ∙ (λ i. rel n (c.rows_of.ensures i) s t && rel n (c.rows_of-2.ensures i) s t))
    (λ s t. c.joined-g.ensures most s t ∙ (λ i. rel n (c.rows_of-first_g.ensures i) s t || rel n (c.rows_of-second_g.ensures i) s t))
    (λ s t. c.joined-left.ensures most s t ∙ (λ i. rel n c.met-r.result s t || rel n (c.rows_of-second_g.ensures i) s t))
    (λ s t. c.joined-right.ensures most s t ∙ (λ i. rel n c.met-r.result s t || rel n (c.rows_of-first_g.ensures i) s t))
    (λ s t. c.joined-moves.ensures most s t ∙ (λ i. rel n c.joined-right.result s t || rel n (c.rows_of-second_g.ensures i) s t))
    (λ s t. c.post-q.ensures most s t
    ∙ (λ i. has c.meet-p.result s && rel n (c.rows_of-3.ensures i) s t
    && rel n (c.rows_of-4.ensures i) s t && reach n (rel n c.joined-moves.result) s t))
