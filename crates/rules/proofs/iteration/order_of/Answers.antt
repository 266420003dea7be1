-- The loop keeps whether each search finds nothing below s. `holds_next` adds the next state to each.
use native.Mathlib.Omega.{arith}
use mathlib.Core.Path.{◌∙◌, sym, ap, ap₂}
use mathlib.Core.Bool.{not, ◌&&◌}
use Rattle.states.proofs.Search.{holds_must}
use Rattle.semantics.specs.Conditions.{c51, c57}
use Rattle.rules.proofs.Searches.{none_held, holds_next, each_done}
use Rattle.rules.proofs.Words.{leads_cong}
use Rattle.rules.proofs.iteration.order_of.Invariants.{closed, loop-free}
use Rattle.rules.proofs.iteration.order_of.Goals as goal

pub loop-s-init : goal.loop-s-init
unfolding c51 c57
loop-s-init c = (omega arith, none_held _, none_held _)

pub loop-s-preserved : goal.loop-s-preserved
unfolding c51 c57
loop-s-preserved c =
    let a = c.args in
    let ends = c.row_at-ends.ensures in (
      omega arith,
      ap₂ ◌&&◌ c.loop-s.invariant.1 (ap not (c.holds_state.ensures ∙ ends _) ∙ sym (holds_must _)) ∙ holds_next _ (loop-free a.n a.work.now a.w),
      ap₂ ◌&&◌ c.loop-s.invariant.2 (c.leads_into-transitive.ensures ∙ leads_cong _ _ _ _ _ _ ends ends) ∙ holds_next _ (closed a.n a.work.now a.w),
    )

pub returns : goal.returns
unfolding c51 c57
returns c = let l = c.loop-s.invariant in
    let done = c.loop-s-test.false in
    record {
      apart = l.1 ∙ each_done _ _ _ l.0 done;
      transitive = l.2 ∙ each_done _ _ _ l.0 done;
    }
