-- Each mention goes on from the one before.
use Rattle.derivation.proofs.Buffers.{length_tabulate}
use Rattle.composition.specs.Refinement.{relations_held}
use Rattle.composition.proofs.Mentioning.{three_mentioned}
use Rattle.composition.proofs.pool.mention_three.Goals as goal

pub returns : goal.returns
unfolding relations_held
returns c seen k =
    let m₁ = c.mention_relation-first.ensures seen k in
    let m₂ = c.mention_relation-second.ensures _ m₁.kept in
    three_mentioned seen _ _ _ _ _ _ _ _ _ m₁ m₂ (c.mention_relation-third.ensures _ m₂.kept) (length_tabulate _ _) (length_tabulate _ _)
