-- The same tests, with the sums in another order.
use Prim.Native.Nat.{suc, ◌+◌, max}
use mathlib.Core.Bool.{◌&&◌}
use mathlib.Core.Path.{◌≡◌}
use native.Mathlib.Omega.{arith}
use lib.Dec.{leb}
use Rattle.handler.specs.Statements.{most_statements, most_statement_levels}
use Rattle.derivation.specs.Nodes.{most_nodes, most_node_levels}
use Rattle.derivation.specs.Tables.{most_tables}
use Rattle.composition.specs.Refinement.{small_counts}
use Rattle.composition.proofs.joining.is_small.Goals as goal

pub returns : goal.returns
unfolding small_counts
returns c =
    let a = c.args in
    let statements : a.both.first.statements + a.both.second.statements + 1 ≡ 1 + a.both.first.statements + a.both.second.statements = omega arith in
    let levels : c.max.result + 1 ≡ suc (max a.both.first.levels a.both.second.levels) = omega (arith, c.max.ensures) in
    let nodes : a.f.nodes + a.g.nodes + 3 ≡ 3 + a.f.nodes + a.g.nodes = omega arith in
    let depth : c.max-2.result + 2 ≡ suc (suc (max a.f.levels a.g.levels)) = omega (arith, c.max-2.ensures) in
    λ i. leb (statements i) most_statements && leb (levels i) most_statement_levels && leb (nodes i) most_nodes && leb (depth i) most_node_levels
    && leb a.sets most_tables && leb a.relations most_tables
