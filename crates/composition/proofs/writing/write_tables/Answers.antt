-- The counts, the sets and the relations are written one after the other, each where the one before ends.
use mathlib.Core.Path.{◌∙◌}
use native.Mathlib.Omega.{arith}
use borrow.Author.Rules.{rules}
use Rattle.composition.proofs.TableFields.{tables_written}
use Rattle.composition.proofs.writing.write_tables.Goals as goal

pub overflow_mul-relations_from : goal.overflow_mul-relations_from
overflow_mul-relations_from c = omega arith

pub overflow_add-relations_from : goal.overflow_add-relations_from
overflow_add-relations_from c = omega arith

pub write_sets-requires : goal.write_sets-requires
write_sets-requires c = (search rules, search rules, search rules, (omega (arith, c.out-1.given), omega arith))

pub write_relations-requires : goal.write_relations-requires
write_relations-requires c =
    let same = c.out-2-1.given ∙ c.out-1.given in
    (search rules, search rules, search rules, (omega (arith, same), omega arith))

pub returns : goal.returns
returns c =
    let a = c.args in
    tables_written a.n a.sets.now a.k a.relations.now a.m a.out.now _ _ _
    (search rules) (search rules) (omega arith) c.put.ensures c.write_sets.ensures c.write_relations.ensures
