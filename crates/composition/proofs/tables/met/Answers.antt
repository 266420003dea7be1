use borrow.Author.Rules.{rules}
use mathlib.Core.Bool.{◌&&◌}
use Rattle.states.specs.Relations.{rel}
use Rattle.states.proofs.Search.{and_left}
use Rattle.states.proofs.EntryLaws.{rows_mem}
use Rattle.states.proofs.Rows.{rel_between}
use Rattle.composition.proofs.Filled.{filled_rel}
use Rattle.composition.proofs.tables.met.Goals as goal

pub returns : goal.returns
returns c most =
    let a = c.args in
    filled_rel a.n most (λ s t. rel a.n a.a.now s t && rel a.n a.b.now s t) _ (λ s t e. rel_between _ _ s t (and_left _ _ e))
    (rows_mem _ _ _ c.rows_by.ensures (λ s l set given. search rules))
