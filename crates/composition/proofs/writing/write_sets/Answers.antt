-- After i rounds the first i sets are written; `set_more` adds one.
use Prim.Native.Nat.{◌+◌, ◌*◌, ◌≤◌}
use mathlib.Core.Path.{◌≡◌, refl, ◌∙◌, ap, fun_ext}
use native.Mathlib.Omega.{arith}
use borrow.Author.Rules.{rules}
use lib.ListN.{length}
use Rattle.writer.specs.Packing.{put_parts}
use Rattle.writer.proofs.Packed.{length_parts}
use Rattle.derivation.specs.Tables.{tabulate}
use Rattle.rules.specs.Words.{word_set}
use Rattle.canonical.proofs.Copying.{table_within}
use Rattle.composition.specs.Refinement.{sets_held}
use Rattle.composition.proofs.TableFields.{set_more}
use Rattle.composition.proofs.writing.write_sets.Goals.{After-put_set-arg-1, At-loop-i}
use Rattle.composition.proofs.writing.write_sets.Goals as goal

-- The buffer keeps its length.
kept : (c : At-loop-i) → length c.loop-i.out ≡ length c.args.out.now
kept c =
    let a = c.args in
    ap length c.loop-i.invariant.1 ∙ length_parts a.out.now a.at _

-- A set ends within the room.
room : (c : After-put_set-arg-1) →
    let a = c.args in
    a.n * c.loop-i.i + a.n ≤ a.n * a.count
room c = table_within _ _ _ (omega arith)

pub loop-i-init : goal.loop-i-init
unfolding put_parts sets_held tabulate
loop-i-init c = (search rules, refl)

pub overflow_mul-width : goal.overflow_mul-width
unfolding put_parts sets_held tabulate
overflow_mul-width c = omega (arith, room c)

pub overflow_add-at : goal.overflow_add-at
unfolding put_parts sets_held tabulate
overflow_add-at c = omega (arith, room c)

pub loop-i-preserved : goal.loop-i-preserved
unfolding put_parts sets_held tabulate
loop-i-preserved c =
    let a = c.args in
    let members = fun_ext c.set_at-set.ensures in (
      omega arith,
      c.put_set.ensures
          ∙ rw (members, c.loop-i.invariant.1)
          (set_more a.n (word_set a.n a.words.now) a.out.now a.at c.loop-i.i (omega (arith, room (goal.at.loop-i-preserved c).After-put_set-arg-1)) (omega (arith, room (goal.at.loop-i-preserved c).After-put_set-arg-1))),
    )

pub returns : goal.returns
unfolding put_parts sets_held tabulate
returns c = let all : c.loop-i.i ≡ c.args.count = omega arith in
    rw all at c.loop-i.invariant.1
