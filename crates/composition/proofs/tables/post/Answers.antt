use borrow.Author.Rules.{rules}
use Rattle.states.specs.Sets.{has}
use Rattle.states.specs.Relations.{rel, reach}
use Rattle.states.proofs.EntryLaws.{rows_mem}
use Rattle.composition.proofs.Filled.{filled_rel, part_between}
use Rattle.composition.proofs.tables.post.Goals as goal

pub returns : goal.returns
returns c most =
    let a = c.args in
    filled_rel a.n most _ _ (part_between a.n a.a.now (has a.p) (rel a.n a.b.now) (reach a.n (rel a.n a.moves.now)))
    (rows_mem _ _ _ c.rows_by.ensures (λ s l set given. search rules))
