-- The table's records at i, at the next node and at the one that node i names.
use mathlib.Core.Path.{◌∙◌, ap}
use native.Mathlib.Numerals.{add-one}
use Rattle.std.proofs.Common.{rules}
use Rattle.derivation.specs.NodeTable.{node_in}
use Rattle.semantics.specs.Checking.{first_broken}
use Rattle.rules.specs.Asking.{fault_of}
use Rattle.rules.specs.Obligations.{obligations_in}
use Rattle.checker.specs.Nodes.{obligations_at}
use Rattle.checker.proofs.Rounds.{placed}
use Rattle.checker.proofs.nodes.fault_at.Goals as goal

pub returns : goal.returns
unfolding obligations_at
returns c =
    let a = c.args in
    let node = c.node_at-node.ensures in
    let first = c.node_at-first.ensures ∙ ap (node_in a.nodes.now) (add-one a.i) in
    let second = c.node_at-second.ensures ∙ ap (λ x. node_in a.nodes.now x.after) node in
    placed a.i _ _ _ _
    (c.node_fault.ensures
    ∙ (λ j. fault_of (first_broken (obligations_in a.exprs.now a.head a.work.now (node j) (c.statement_at-statement.ensures j) (first j) (second j)))))
    c.map_err.ensures.cases (λ b f made. search rules)
