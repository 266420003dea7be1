-- P is mentioned first, then the sets of both forms.
use Rattle.derivation.specs.Tables.{tabulate}
use Rattle.derivation.proofs.Buffers.{length_tabulate}
use Rattle.composition.specs.Refinement.{sets_held}
use Rattle.composition.proofs.Places.{kept_merged, sets_numbered}
use Rattle.composition.proofs.numbering.number_sets.Goals as goal

pub returns : goal.returns
unfolding sets_held tabulate
returns c =
    let m₁ = c.mention_set-one.ensures in
    let m₂ = c.mention_sets-some.ensures _ m₁.kept in
    sets_numbered _ _ _ _ _ _ _ _ _ _ _ m₁ m₂ (c.mention_sets-count.ensures _ (kept_merged _ _ _ _ _ m₂)) (length_tabulate _ _)
