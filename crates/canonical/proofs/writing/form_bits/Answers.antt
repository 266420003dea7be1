-- With so few states, tables and nodes no product and no sum is large.
use Prim.Native.Nat.{◌≤◌, min}
use native.Mathlib.Omega.{arith}
use borrow.Author.Rules.{rules}
use lib.ListN.{take, length-take}
use Rattle.canonical.proofs.Bounds.{FewBits, few_bits}
use Rattle.canonical.proofs.Copying.{nodes_most}
use Rattle.canonical.proofs.writing.form_bits.Goals.{After-nodes_width, Start}
use Rattle.canonical.proofs.writing.form_bits.Goals as goal

small : (c : Start) → FewBits c.args.n c.args.m.sets.count c.args.m.relations.count
small c = few_bits c.args.n c.args.m.sets.count c.args.m.relations.count (search rules) (search rules) (search rules)

few : (c : After-nodes_width) → c.nodes_width.result ≤ 3429
few c =
    let a = c.args in
    let words = take (min a.count 127) a.nodes.now in
    omega (arith, c.nodes_width.ensures, nodes_most words, length-take (min a.count 127) a.nodes.now)

pub overflow_add-result-3 : goal.overflow_add-result-3
overflow_add-result-3 c = omega (arith, small (goal.at.overflow_add-result-3 c).Start, few c)

pub returns : goal.returns
returns c = let s = small (goal.at.returns c).Start in
    (omega (arith, c.nodes_width.ensures), omega (arith, s, few c))
