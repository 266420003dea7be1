-- The states of the first broken condition are those that its number gives.
use Rattle.std.proofs.Common.{rules}
use Rattle.rules.specs.Obligations.{obligations_in}
use Rattle.rules.proofs.Asking.{fault_found}
use Rattle.rules.proofs.node_fault.Goals as goal

pub returns : goal.returns
returns c = let a = c.args in
    fault_found (obligations_in a.exprs.now a.head a.work.now a.node a.statement a.first a.second) _ _ _ c.node_verdict.ensures
    c.map_err.ensures.cases (λ k b made. search rules)
