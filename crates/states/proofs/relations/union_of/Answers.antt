-- Row s is the join of the two rows. A state past the rows that are made is not below n, and starts no pair.
use native.Mathlib.Omega.{arith}
use borrow.Author.Rules.{rules}
use Rattle.states.proofs.Search.{not_true_false}
use Rattle.states.proofs.EntryLaws.{rows_mem_to}
use Rattle.states.proofs.Rows.{join_of, join_between}
use Rattle.states.proofs.relations.union_of.Goals as goal

pub returns : goal.returns
returns c =
    let held = c.rows_held.ensures in
    let f = join_of c.args.n c.args.a.now c.args.b.now in
    rows_mem_to _ _ f _ held.0 c.rows_to.ensures (λ s l set given. search rules)
    (λ s t past low. not_true_false _ (λ h. omega (arith, held.1 s low (join_between _ _ _ s t h).0)))
