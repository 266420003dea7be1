-- The room is that of the nodes under their old names, which have as many bits; `write_each` writes them if there is room.
use Prim.Native.Nat.{min}
use mathlib.Core.Path.{◌≡◌, sym, ◌∙◌, ap}
use lib.ListN.{take}
use Rattle.writer.specs.Writing.{has_room}
use Rattle.writer.specs.Packing.{width_of, put_parts, put_all}
use Rattle.writer.proofs.Laws.{in_room}
use Rattle.form.specs.Form.{parts_of}
use Rattle.canonical.specs.Nodes.{held_in}
use Rattle.canonical.proofs.NodeFields.{renamed_parts, held_width}
use Rattle.canonical.proofs.nodes.write_nodes.Goals.{After-has_room}
use Rattle.canonical.proofs.nodes.write_nodes.Goals as goal

-- What is tested.
tested : (c : After-has_room) → let a = c.args in
    has_room a.out.now a.at
    (width_of (held_in (renamed_parts a.sets.now a.relations.now) (take (min a.count 127) a.nodes.now)))
    ≡ c.has_room.result
tested c =
    let a = c.args in
    ap (has_room a.out.now a.at) (held_width a.sets.now a.relations.now _ ∙ sym c.nodes_width.ensures)
    ∙ sym c.has_room.ensures

pub write_each-requires : goal.write_each-requires
unfolding put_all
write_each-requires c =
    let a = c.args in
    let room = in_room a.out.now a.at _ (sym c.has_room.ensures ∙ c.if-has_room.true) in
    let width = ap (λ ws. width_of (held_in parts_of ws)) c.node_count.ensures.2 ∙ sym c.nodes_width.ensures in
    (c.node_count.ensures.1, (rw width room.0, rw width room.1))

pub returns-then-has_room : goal.returns-then-has_room
unfolding put_all
returns-then-has_room c =
    let a = c.args in
    rw (tested (goal.at.returns-then-has_room c).After-has_room, c.if-has_room.true)
    (c.write_each.ensures
    ∙ ap (λ ws. put_parts a.out.now a.at (held_in (renamed_parts a.sets.now a.relations.now) ws)) c.node_count.ensures.2)

pub returns-else-has_room : goal.returns-else-has_room
unfolding put_all
returns-else-has_room c = rw (tested (goal.at.returns-else-has_room c).After-has_room, c.if-has_room.false)
