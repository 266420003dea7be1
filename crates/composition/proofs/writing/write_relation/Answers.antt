-- After s rounds the rows below s are written; `row_more` adds one.
use Prim.Native.Nat.{◌+◌, ◌*◌, ◌≤◌}
use mathlib.Core.Path.{◌≡◌, ◌∙◌, ap, fun_ext}
use native.Mathlib.Nat.{mul-zero}
use native.Mathlib.Omega.{arith}
use borrow.Author.Rules.{rules}
use lib.ListN.{length}
use Rattle.writer.specs.Writing.{put_bits}
use Rattle.writer.proofs.Laws.{length_put}
use Rattle.rules.specs.Words.{word_relation}
use Rattle.form.specs.Members.{relation_where}
use Rattle.canonical.proofs.Copying.{table_within}
use Rattle.composition.proofs.TableBits.{row_more}
use Rattle.composition.proofs.writing.write_relation.Goals.{After-put_set-arg-1, At-loop-s}
use Rattle.composition.proofs.writing.write_relation.Goals as goal

-- The buffer keeps its length.
kept : (c : At-loop-s) → length c.loop-s.out ≡ length c.args.out.now
kept c =
    let a = c.args in
    ap length c.loop-s.invariant.1 ∙ length_put a.out.now a.at (a.n * c.loop-s.s) _

-- A row ends within the room.
room : (c : After-put_set-arg-1) →
    let a = c.args in
    a.n * c.loop-s.s + a.n ≤ a.n * a.n
room c = table_within _ _ _ (omega arith)

pub loop-s-init : goal.loop-s-init
unfolding put_bits relation_where
loop-s-init c = (search rules, rw (mul-zero c.args.n))

pub overflow_mul-width : goal.overflow_mul-width
unfolding put_bits relation_where
overflow_mul-width c = omega (arith, room c)

pub overflow_add-at : goal.overflow_add-at
unfolding put_bits relation_where
overflow_add-at c = omega (arith, room c)

pub loop-s-preserved : goal.loop-s-preserved
unfolding put_bits relation_where
loop-s-preserved c =
    let a = c.args in
    let members = fun_ext c.row_at-row.ensures in (
      omega arith,
      c.put_set.ensures
          ∙ rw (members, c.loop-s.invariant.1)
          (row_more a.n (word_relation a.n a.words.now a.r) a.out.now a.at c.loop-s.s (omega (arith, room (goal.at.loop-s-preserved c).After-put_set-arg-1)) (omega (arith, room (goal.at.loop-s-preserved c).After-put_set-arg-1))),
    )

pub returns : goal.returns
unfolding put_bits relation_where
returns c = let all : c.loop-s.s ≡ c.args.n = omega arith in
    rw all at c.loop-s.invariant.1
