-- The first fault of all nodes is that of the nodes from i on. `goes_on` passes over a node whose conditions hold.
use Prim.Native.Nat.{◌-◌}
use native.Mathlib.Omega.{arith}
use native.Mathlib.Nat.{le_trans}
use mathlib.Core.Path.{◌≡◌, sym, ◌∙◌, ap}
use Rattle.std.proofs.Common.{rules}
use Rattle.std.specs.Prelude.{Err}
use Rattle.checker.specs.Nodes.{faults_from, fault_found}
use Rattle.checker.proofs.Rounds.{goes_on, ends_at, no_more, after_least}
use Rattle.checker.proofs.nodes.first_fault.Goals as goal

pub loop-i-init : goal.loop-i-init
loop-i-init c =
    let all : c.args.count - 0 ≡ c.args.count = omega arith in
    (omega arith, omega arith, rw all)

pub returns-in_err-fault_at : goal.returns-in_err-fault_at
returns-in_err-fault_at c =
    let passed : c.from_residual.result ≡ Err c.in_err-fault_at.field-0.0 = search rules in
    passed ∙ sym (ap fault_found c.loop-i.invariant.2 ∙ ends_at _ _ _ _ _ _ _ _ (omega arith) _ (sym c.fault_at.ensures ∙ c.in_err-fault_at.was))

pub loop-i-preserved : goal.loop-i-preserved
loop-i-preserved c =
    let l = c in (
      omega arith,
      rw c.statement_after-s.ensures (le_trans (after_least _ l.loop-i.s) (omega arith)),
      l.loop-i.invariant.2 ∙ goes_on _ _ _ _ _ _ _ _ (omega arith) (sym c.fault_at.ensures ∙ c.in_ok-fault_at.was)
          ∙ ap (faults_from _ _ _ _ _ _ _) (sym c.statement_after-s.ensures),
    )

pub returns : goal.returns
returns c = sym (ap fault_found (c.loop-i.invariant.2 ∙ no_more _ _ _ _ _ _ _ _ c.loop-i-test.false))
