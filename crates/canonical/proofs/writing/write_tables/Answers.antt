-- After k rounds the first k tables are written; `tables_more` adds one.
use Prim.Native.Nat.{◌+◌, ◌*◌, ◌≤◌}
use mathlib.Core.Path.{◌≡◌, refl, ◌∙◌, ap}
use native.Mathlib.Omega.{arith}
use borrow.Author.Rules.{rules}
use lib.ListN.{length}
use Rattle.writer.specs.Packing.{put_parts}
use Rattle.writer.proofs.Copied.{copied_fits}
use Rattle.writer.proofs.Packed.{length_parts}
use Rattle.canonical.specs.Refinement.{members_in, members_of}
use Rattle.canonical.proofs.Copying.{tables_more, table_within}
use Rattle.canonical.proofs.writing.write_tables.Goals.{In-loop-k}
use Rattle.canonical.proofs.writing.write_tables.Goals as goal

-- A table ends within the room.
room : (c : In-loop-k) → c.args.run.width * c.loop-k.k + c.args.run.width ≤ c.args.run.width * c.args.count
room c = table_within _ _ _ (omega arith)

pub loop-k-init : goal.loop-k-init
unfolding members_of put_parts
loop-k-init c = (search rules, refl)

pub loop-k-preserved : goal.loop-k-preserved
unfolding members_in
loop-k-preserved c =
    let l = c.loop-k in
    let a = c.args in
    let within = room (goal.at.loop-k-preserved c).In-loop-k in
    -- The buffer keeps its length.
    let kept : length l.out ≡ length a.out.now = ap length l.invariant.1 ∙ length_parts a.out.now a.at _ in
    let fits =
    copied_fits l.out (a.at + a.run.width * l.k) a.src.now c.table_cursor.result a.run.width
    (omega (arith, within, kept)) (omega (arith, within)) (omega (arith, c.table_cursor.ensures.1))
    in (
      omega arith,
      c.copy.ensures ∙ rw (fits, c.table_cursor.ensures.0, l.invariant.1)
          (tables_more a.src.now a.run a.order.now a.out.now a.at l.k (omega arith)),
    )
