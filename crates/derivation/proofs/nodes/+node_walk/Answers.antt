-- One level of the walk is one head and the walks one level down, so the answer is the definition's by the laws of where a node
-- ends, and the table is the definition's by those of how it is filled.
use Prim.Native.Nat.{◌+◌, ◌^◌, ◌<◌}
use mathlib.Core.Path.{sym, ◌∙◌}
use native.Mathlib.Omega.{arith}
use borrow.Author.Tests.{ltb-true, ltb-false}
use Rattle.derivation.proofs.Heads.{passed_on, next_near, node_within, head_room}
use Rattle.derivation.proofs.NodeTable.{head_fits}
use Rattle.derivation.proofs.Filling.{no_level, no_head_lem, leaf_done, first_faulty, after_few, levels_few, end_near, one_done, second_faulty, others_few, two_done}
use Rattle.derivation.proofs.nodes.+node_walk.Goals as goal

pub returns-then-levels-eq0 : goal.returns-then-levels-eq0
returns-then-levels-eq0 t c =
    let a = c.args in
    let d = no_level a.src.now a.tables.sets a.tables.relations a.levels a.before a.at a.table.now a.table.now c.if-levels-eq0.true in
    record { ends = d.0; filled = d.1 }

pub returns-in_err-head : goal.returns-in_err-head
returns-in_err-head t c =
    let a = c.args in
    let d =
    no_head_lem a.src.now a.tables.sets a.tables.relations a.levels a.before a.at c.if-levels-eq0.false a.table.now c.in_err-head.field-0.0
    a.table.now (sym c.node_head_at.ensures ∙ c.in_err-head.was)
    in
    record { ends = passed_on _ _ c.from_residual.ensures.1 ∙ d.0; filled = d.1 }

pub overflow_add-first : goal.overflow_add-first
overflow_add-first t c =
    let few = (head_room _ _ _ _ _ _ _ (sym c.node_head_at.ensures ∙ c.in_ok-head.was)).1 in
    omega (arith, few)

pub store_node-requires : goal.store_node-requires
store_node-requires t c =
    let a = c.args in
    let head = sym c.node_head_at.ensures ∙ c.in_ok-head.was in
    let few : a.before < 127 = (head_room _ _ _ _ _ _ _ head).1 in
    let fits = head_fits _ _ c.requires.0 c.requires.1 _ _ (node_within _ _ _ _ _ _ _ head) (a.before + 1) a.at (omega arith) in
    (few, fits, omega arith)

pub returns-then-has_no_child : goal.returns-then-has_no_child
returns-then-has_no_child t c =
    let a = c.args in
    let head = sym c.node_head_at.ensures ∙ c.in_ok-head.was in
    let leaf = ltb-true _ 2 (sym c.has_no_child.ensures ∙ c.if-has_no_child.true) in
    let d =
    leaf_done a.src.now a.tables.sets a.tables.relations a.levels a.before a.at c.if-levels-eq0.false a.table.now _ head leaf _ c.store_node.ensures
    in
    record { ends = d.0; filled = d.1 }

pub node_walk-requires : goal.node_walk-requires
node_walk-requires t c =
    let near = next_near _ _ _ _ (node_within _ _ _ _ _ _ _ (sym c.node_head_at.ensures ∙ c.in_ok-head.was)) in
    omega (arith, c.if-levels-eq0.false, near)

pub returns-in_err-child : goal.returns-in_err-child
returns-in_err-child t c =
    let a = c.args in
    let head = sym c.node_head_at.ensures ∙ c.in_ok-head.was in
    let past = ltb-false _ 2 (sym c.has_no_child.ensures ∙ c.if-has_no_child.false) in
    let d =
    first_faulty a.src.now a.tables.sets a.tables.relations a.levels a.before a.at c.if-levels-eq0.false a.table.now _ head _ _
    (c.node_walk.ensures.ends, c.node_walk.ensures.filled) past _ c.node_walk.new.table c.in_err-child.was
    in
    record { ends = passed_on _ _ c.from_residual-in_err-child.ensures.1 ∙ d.0; filled = d.1 }

pub store_node-requires-2 : goal.store_node-requires-2
store_node-requires-2 t c =
    let a = c.args in
    let head = sym c.node_head_at.ensures ∙ c.in_ok-head.was in
    let few : a.before < 127 = (head_room _ _ _ _ _ _ _ head).1 in
    let past = ltb-false _ 2 (sym c.has_no_child.ensures ∙ c.if-has_no_child.false) in
    let few_after =
    after_few _ _ _ _ _ _ c.if-levels-eq0.false _ _ head _ _ (c.node_walk.ensures.ends, c.node_walk.ensures.filled) past _ _ _ c.in_ok-child.was
    in
    let fits = head_fits _ _ c.requires.0 c.requires.1 _ _ (node_within _ _ _ _ _ _ _ head) c.in_ok-child.child.nodes a.at (omega (arith, few_after)) in
    (few, fits, omega arith)

pub overflow_add-result : goal.overflow_add-result
overflow_add-result t c =
    let head = sym c.node_head_at.ensures ∙ c.in_ok-head.was in
    let past = ltb-false _ 2 (sym c.has_no_child.ensures ∙ c.if-has_no_child.false) in
    let few =
    levels_few _ _ _ _ _ _ c.if-levels-eq0.false _ _ head _ _ (c.node_walk.ensures.ends, c.node_walk.ensures.filled) past _ _ _ c.in_ok-child.was
    in
    omega (arith, few)

pub returns-then-not-has_two_children : goal.returns-then-not-has_two_children
returns-then-not-has_two_children t c =
    let a = c.args in
    let head = sym c.node_head_at.ensures ∙ c.in_ok-head.was in
    let past = ltb-false _ 2 (sym c.has_no_child.ensures ∙ c.if-has_no_child.false) in
    let one = ltb-false _ 4 (sym c.has_two_children.ensures ∙ c.if-not-has_two_children.true) in
    let d =
    one_done a.src.now a.tables.sets a.tables.relations a.levels a.before a.at c.if-levels-eq0.false a.table.now _ head _ _
    (c.node_walk.ensures.ends, c.node_walk.ensures.filled) past _ _ _ c.in_ok-child.was one _ c.store_node-2.ensures
    in
    record { ends = d.0; filled = d.1 }

pub node_walk-requires-2 : goal.node_walk-requires-2
node_walk-requires-2 t c =
    let head = sym c.node_head_at.ensures ∙ c.in_ok-head.was in
    let past = ltb-false _ 2 (sym c.has_no_child.ensures ∙ c.if-has_no_child.false) in
    let near =
    end_near _ _ _ _ _ _ c.if-levels-eq0.false _ _ head _ _ (c.node_walk.ensures.ends, c.node_walk.ensures.filled) past _ _ _ c.in_ok-child.was
    (2 ^ 20) c.requires.2
    in
    omega (arith, c.if-levels-eq0.false, near)

pub returns-in_err-second : goal.returns-in_err-second
returns-in_err-second t c =
    let a = c.args in
    let head = sym c.node_head_at.ensures ∙ c.in_ok-head.was in
    let past = ltb-false _ 2 (sym c.has_no_child.ensures ∙ c.if-has_no_child.false) in
    let two = ltb-true _ 4 (sym c.has_two_children.ensures ∙ c.if-not-has_two_children.false) in
    let d =
    second_faulty a.src.now a.tables.sets a.tables.relations a.levels a.before a.at c.if-levels-eq0.false a.table.now _ head _ _
    (c.node_walk.ensures.ends, c.node_walk.ensures.filled) past _ _ _ c.in_ok-child.was two _ c.store_node-2.ensures _ c.node_walk-2.new.table
    (c.node_walk-2.ensures.ends, c.node_walk-2.ensures.filled) _ c.in_err-second.was
    in
    record { ends = passed_on _ _ c.from_residual-in_err-second.ensures.1 ∙ d.0; filled = d.1 }

pub overflow_add-result-2 : goal.overflow_add-result-2
overflow_add-result-2 t c =
    let head = sym c.node_head_at.ensures ∙ c.in_ok-head.was in
    let past = ltb-false _ 2 (sym c.has_no_child.ensures ∙ c.if-has_no_child.false) in
    let two = ltb-true _ 4 (sym c.has_two_children.ensures ∙ c.if-not-has_two_children.false) in
    let few =
    levels_few _ _ _ _ _ _ c.if-levels-eq0.false _ _ head _ _ (c.node_walk.ensures.ends, c.node_walk.ensures.filled) past _ _ _ c.in_ok-child.was
    in
    let others =
    others_few _ _ _ _ _ _ c.if-levels-eq0.false _ _ head _ _ (c.node_walk.ensures.ends, c.node_walk.ensures.filled) past _ _ _ c.in_ok-child.was
    two _ c.store_node-2.ensures _ c.node_walk-2.new.table (c.node_walk-2.ensures.ends, c.node_walk-2.ensures.filled) _ c.in_ok-second.was
    in
    omega (arith, few, others)

pub returns : goal.returns
returns t c =
    let a = c.args in
    let head = sym c.node_head_at.ensures ∙ c.in_ok-head.was in
    let past = ltb-false _ 2 (sym c.has_no_child.ensures ∙ c.if-has_no_child.false) in
    let two = ltb-true _ 4 (sym c.has_two_children.ensures ∙ c.if-not-has_two_children.false) in
    let d =
    two_done a.src.now a.tables.sets a.tables.relations a.levels a.before a.at c.if-levels-eq0.false a.table.now _ head _ _
    (c.node_walk.ensures.ends, c.node_walk.ensures.filled) past _ _ _ c.in_ok-child.was two _ c.store_node-2.ensures _ c.node_walk-2.new.table
    (c.node_walk-2.ensures.ends, c.node_walk-2.ensures.filled) _ c.in_ok-second.was (c.max.result + 1) (omega arith)
    in
    record { ends = d.0; filled = d.1 }
