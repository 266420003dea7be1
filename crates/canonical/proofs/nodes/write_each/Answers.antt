-- Each round writes the fields of one node after those of the nodes before it.
use Prim.Native.Nat.{◌<◌}
use mathlib.Core.List.{List}
use mathlib.Core.Path.{◌≡◌, sym, ◌∙◌, ap}
use native.Mathlib.Omega.{arith}
use lib.ListN.{length}
use Rattle.writer.specs.Packing.{Part, width_of, put_parts, put_all}
use Rattle.writer.proofs.Packed.{length_parts, all_fits}
use Rattle.derivation.specs.NodeTable.{node_in}
use Rattle.form.specs.Members.{node_by}
use Rattle.form.specs.Form.{parts_of}
use Rattle.canonical.specs.Nodes.{name_in}
use Rattle.canonical.specs.Refinement.{Room}
use Rattle.canonical.proofs.Order.{held_none}
use Rattle.canonical.proofs.NodeFields.{width_renamed, width_more, width_within, renamed_parts, put_next}
use Rattle.canonical.proofs.nodes.write_each.Goals.{In-loop-i, After-renamed-node, After-node_width-cursor}
use Rattle.canonical.proofs.nodes.write_each.Goals as goal

-- The fields of the node of this round: under the new names they have as many bits.
abbrev own : In-loop-i → List Part
own c = renamed_parts c.args.sets.now c.args.relations.now (node_in c.args.nodes.now c.loop-i.i)

own_width : (c : In-loop-i) → width_of (own c) ≡ width_of (parts_of (node_in c.args.nodes.now c.loop-i.i))
own_width c = width_renamed (node_in c.args.nodes.now c.loop-i.i) (name_in c.args.sets.now) (name_in c.args.relations.now)

-- There is room for them: the buffer's length never changes.
room : (c : In-loop-i) → Room c.loop-i.out c.loop-i.cursor (width_of (own c))
room c =
    let within = width_within c.args.nodes.now c.loop-i.i c.args.count (omega arith) c.requires.0 in
    let kept : length c.loop-i.out ≡ length c.args.out.now = ap length c.loop-i.invariant.2 ∙ length_parts _ _ _ in (
      omega (arith, within, own_width c, c.loop-i.invariant.1, kept, c.requires.1.0),
      omega (arith, within, own_width c, c.loop-i.invariant.1, c.requires.1.1),
    )

-- The node that is written.
parts_are : (c : After-renamed-node) → parts_of c.renamed-node.result
    ≡ renamed_parts c.args.sets.now c.args.relations.now (node_in c.args.nodes.now c.loop-i.i)
parts_are c = ap parts_of (c.renamed-node.ensures ∙ ap (node_by (name_in c.args.sets.now) (name_in c.args.relations.now)) c.node_at.ensures)

pub loop-i-init : goal.loop-i-init
unfolding put_parts width_of
loop-i-init c =
    let a = c.args in
    let renamed = renamed_parts a.sets.now a.relations.now in
    (omega arith, rw (held_none parts_of a.nodes.now) (omega arith), rw (held_none renamed a.nodes.now))

pub overflow_add-cursor : goal.overflow_add-cursor
overflow_add-cursor c =
    let at = goal.at.overflow_add-cursor c in
    let added = c.node_width-cursor.ensures ∙ ap width_of (parts_are at.After-renamed-node) in
    omega (arith, added, (room at.In-loop-i).1)

pub loop-i-preserved : goal.loop-i-preserved
loop-i-preserved c =
    let at = goal.at.loop-i-preserved c in
    let a = c.args in
    let l = c.loop-i in
    let inside : l.i < length a.nodes.now = omega arith in
    let added = c.node_width-cursor.ensures ∙ ap width_of (parts_are at.After-renamed-node) in (
      omega arith,
      omega (arith, l.invariant.1, added, own_width at.In-loop-i, width_more a.nodes.now l.i inside),
      c.write_node.ensures ∙ ap (put_all l.out l.cursor) (parts_are at.After-renamed-node)
          ∙ all_fits l.out l.cursor (own at.In-loop-i) (room at.In-loop-i).0 (room at.In-loop-i).1
          ∙ (λ k. put_parts (l.invariant.2 k) (l.invariant.1 k) (own at.In-loop-i))
          ∙ sym (put_next a.sets.now a.relations.now _ _ a.nodes.now l.i inside),
    )
