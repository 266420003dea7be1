-- After k rounds the first k relations are written; `tables_more` adds one.
use Prim.Native.Nat.{◌+◌, ◌*◌, ◌≤◌}
use mathlib.Core.Path.{◌≡◌, refl, ◌∙◌, ap}
use native.Mathlib.Omega.{arith}
use borrow.Author.Rules.{rules}
use lib.ListN.{length}
use Rattle.writer.specs.Packing.{put_parts}
use Rattle.writer.proofs.Packed.{length_parts}
use Rattle.derivation.specs.Tables.{tabulate}
use Rattle.canonical.proofs.Bounds.{few_bits}
use Rattle.canonical.proofs.Copying.{table_within}
use Rattle.composition.specs.Refinement.{relations_held}
use Rattle.composition.proofs.TableFields.{tables_more}
use Rattle.composition.proofs.writing.write_relations.Goals.{After-write_relation-arg-1, At-loop-r}
use Rattle.composition.proofs.writing.write_relations.Goals as goal

-- The buffer keeps its length.
kept : (c : At-loop-r) → length c.loop-r.out ≡ length c.args.out.now
kept c =
    let a = c.args in
    ap length c.loop-r.invariant.1 ∙ length_parts a.out.now a.at _

-- A relation ends within the room.
room : (c : After-write_relation-arg-1) →
    let a = c.args in
    a.n * a.n * c.loop-r.r + a.n * a.n ≤ a.n * a.n * a.count
room c = table_within _ _ _ (omega arith)

pub overflow_mul-width : goal.overflow_mul-width
unfolding put_parts relations_held tabulate
overflow_mul-width c = let n = c.args.n in omega (arith, few_bits n 0 0 (search rules) (omega arith) (omega arith))

pub loop-r-init : goal.loop-r-init
unfolding put_parts relations_held tabulate
loop-r-init c = (search rules, refl)

pub overflow_mul-width-in-loop-r : goal.overflow_mul-width-in-loop-r
unfolding put_parts relations_held tabulate
overflow_mul-width-in-loop-r c = omega (arith, room c)

pub overflow_add-at : goal.overflow_add-at
unfolding put_parts relations_held tabulate
overflow_add-at c = omega (arith, room c)

pub write_relation-requires : goal.write_relation-requires
unfolding put_parts relations_held tabulate
write_relation-requires c =
    (search rules, search rules, (omega (arith, room c, kept (goal.at.write_relation-requires c).At-loop-r), omega (arith, room c)))

pub loop-r-preserved : goal.loop-r-preserved
unfolding put_parts relations_held tabulate
loop-r-preserved c =
    let a = c.args in
    (omega arith, c.write_relation.ensures ∙ rw c.loop-r.invariant.1 (tables_more (a.n * a.n) _ a.out.now a.at c.loop-r.r))

pub returns : goal.returns
unfolding put_parts relations_held tabulate
returns c = let all : c.loop-r.r ≡ c.args.count = omega arith in
    rw all at c.loop-r.invariant.1
