-- G and Q are rows of the words.
use mathlib.Core.Path.{ap}
use Rattle.states.specs.Relations.{rel}
use Rattle.rules.specs.Words.{word_relation}
use Rattle.form.specs.Members.{relation_where}
use Rattle.composition.proofs.Mentioning.{three_by}
use Rattle.composition.proofs.numbering.mention_side.Goals as goal

pub returns : goal.returns
unfolding word_relation
returns c seen k =
    let n = c.args.n in
    three_by _ _ _ _ _ _ _ _ (ap (λ w. relation_where n (rel n w)) c.rows_of.ensures)
    (ap (λ w. relation_where n (rel n w)) c.rows_of-2.ensures) (c.mention_three.ensures seen k)
