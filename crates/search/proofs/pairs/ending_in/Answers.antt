-- Row s is the row of the relation, met with the set.
use borrow.Author.Rules.{rules}
use mathlib.Core.Bool.{◌&&◌}
use Rattle.states.specs.Sets.{has}
use Rattle.states.specs.Relations.{rel}
use Rattle.states.proofs.Search.{and_left}
use Rattle.states.proofs.EntryLaws.{rows_mem}
use Rattle.states.proofs.Rows.{rel_between, rel_pairs}
use Rattle.search.proofs.pairs.ending_in.Goals as goal

pub returns : goal.returns
returns c =
    let a = c.args in
    rel_pairs a.n (λ s t. rel a.n a.rows.now s t && has a.set t) _ (λ s t e. rel_between a.n a.rows.now s t (and_left _ _ e))
    (rows_mem _ _ _ c.rows_by.ensures (λ s l set given. search rules))
