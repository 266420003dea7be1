-- Each row is the set.
use borrow.Author.Rules.{rules}
use Rattle.states.specs.Sets.{has}
use Rattle.states.proofs.EntryLaws.{rows_mem}
use Rattle.states.proofs.Rows.{rel_filled}
use Rattle.search.proofs.pairs.all_into.Goals as goal

pub returns : goal.returns
returns c n = rel_filled n _ _ (rows_mem _ (λ s t. has c.args.set t) _ c.rows_by.ensures (λ s l set given. search rules))
