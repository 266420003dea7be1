-- Each round writes the fields of one node after those of the nodes before it.
use Prim.Native.Nat.{◌+◌, ◌≤◌}
use mathlib.Core.Path.{◌≡◌}
use lib.ListN.{take}
use Rattle.writer.specs.Packing.{width_of, put_parts}
use Rattle.form.specs.Form.{parts_of}
use Rattle.canonical.specs.Nodes.{held_in}
use Rattle.canonical.proofs.NodeFields.{renamed_parts}
use Rattle.canonical.proofs.nodes.write_each.Given as goal

abbrev pub invariant-loop-i : goal.invariant-loop-i
invariant-loop-i l =
    (l.i ≤ l.count) × (l.cursor ≡ l.at + width_of (held_in parts_of (take l.i l.nodes)))
    × (l.out ≡ put_parts l.initial.out l.at (held_in (renamed_parts l.sets l.relations) (take l.i l.nodes)))
