use borrow.Author.Rules.{rules}
use Rattle.states.proofs.Search.{and_left}
use Rattle.states.proofs.EntryLaws.{rows_mem}
use Rattle.states.proofs.Rows.{rel_between, rel_pairs}
use Rattle.rules.specs.Words.{word_relation}
use Rattle.rules.proofs.parallel.joint_ends.Goals as goal

pub returns : goal.returns
unfolding word_relation
returns c =
    let a = c.args in
    rel_pairs a.n _ _ (λ s t e. rel_between a.n _ s t (and_left _ _ (and_left _ _ e)))
    (rows_mem _ _ _ c.rows_by.ensures (λ s l set given. search rules))
