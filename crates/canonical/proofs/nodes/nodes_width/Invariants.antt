-- Each round adds the bits of one node; they are at most 27.
use Prim.Native.Nat.{◌*◌, ◌≤◌}
use mathlib.Core.Path.{◌≡◌}
use lib.ListN.{take}
use Rattle.writer.specs.Packing.{width_of}
use Rattle.form.specs.Form.{parts_of}
use Rattle.canonical.specs.Nodes.{held_in}
use Rattle.canonical.proofs.nodes.nodes_width.Given as goal

abbrev pub invariant-loop-i : goal.invariant-loop-i
invariant-loop-i l = (l.i ≤ l.i-end) × (l.width ≡ width_of (held_in parts_of (take l.i l.nodes))) × (l.width ≤ 27 * l.i)
