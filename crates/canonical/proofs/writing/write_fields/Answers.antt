-- The counts, the sets, the relations and the nodes are written one after the other, each where the one before ends.
use Prim.Native.Nat.{ℕ, ◌+◌, ◌*◌, ◌≤◌, min}
use mathlib.Core.List.{List}
use mathlib.Core.Path.{◌≡◌, ◌∙◌}
use native.Mathlib.Omega.{arith}
use borrow.Author.Rules.{rules}
use lib.ListN.{length, take}
use Rattle.derivation.specs.Tables.{most_tables}
use Rattle.writer.specs.Packing.{Part, width_of, put_parts, put_all}
use Rattle.writer.proofs.Packed.{all_fits}
use Rattle.form.specs.Form.{parts_of}
use Rattle.canonical.specs.Nodes.{held_in}
use Rattle.canonical.specs.Refinement.{set_run, relation_run, Within, Room, parts_in}
use Rattle.canonical.specs.declared.Run.{Run}
use Rattle.canonical.proofs.Bounds.{FewBits, few_bits}
use Rattle.canonical.proofs.NodeFields.{renamed_parts, held_width}
use Rattle.canonical.proofs.Copying.{width_fields, fields_written}
use Rattle.canonical.proofs.writing.write_fields.Goals.{Start}
use Rattle.canonical.proofs.writing.write_fields.Goals as goal

full : (c : Start) → (length c.args.m.sets.order ≡ most_tables) × (length c.args.m.relations.order ≡ most_tables)
full c = (search rules, search rules)

small : (c : Start) → FewBits c.args.n c.args.m.sets.count c.args.m.relations.count
small c = few_bits c.args.n c.args.m.sets.count c.args.m.relations.count (search rules) (search rules) (search rules)

width : (c : Start) → let a = c.args in
    width_of (parts_in a.src.now a.n a.tables a.m (take (min a.count 127) a.nodes.now))
    ≡ 10 + a.n * a.m.sets.count + a.n * a.n * a.m.relations.count + width_of (held_in parts_of (take (min a.count 127) a.nodes.now))
width c = width_fields _ _ _ _ _ (omega (arith, full c)) (omega (arith, full c))

-- Each step has room in bytes of the same length.
module _ (c : Start) (out : List ℕ) (same : length out ≡ length c.args.out.now) where
  set_room : (run : Run) → run ≡ set_run c.args.n
      → Within run × (c.args.m.sets.count ≤ most_tables) × Room out 10 (run.width * c.args.m.sets.count)
  set_room run is = rw is ((omega arith, omega arith), search rules, (omega (arith, width c), omega (arith, width c)))

  few_tables : FewBits c.args.n c.args.tables 0
  few_tables = few_bits c.args.n c.args.tables 0 (search rules) (search rules) (omega arith)

  relation_room : (run : Run) → run ≡ relation_run c.args.n c.args.tables
      → Within run × (c.args.m.relations.count ≤ most_tables)
      × Room out (10 + c.args.n * c.args.m.sets.count) (run.width * c.args.m.relations.count)
  relation_room run is =
      rw is ((omega (arith, few_tables), omega (arith, small c)), search rules, (omega (arith, width c), omega (arith, width c)))

  -- The nodes fit too, so they are all written.
  abbrev words : List ℕ
  words = take (min c.args.count 127) c.args.nodes.now

  abbrev node_parts : List Part
  node_parts = held_in (renamed_parts c.args.m.sets.names c.args.m.relations.names) words

  nodes_put : let at = 10 + c.args.n * c.args.m.sets.count + c.args.n * c.args.n * c.args.m.relations.count in
      put_all out at node_parts ≡ put_parts out at node_parts
  nodes_put =
      let same_width_lem = held_width c.args.m.sets.names c.args.m.relations.names words in
      all_fits out _ node_parts (omega (arith, width c, same_width_lem)) (omega (arith, width c, same_width_lem))

pub write_named-requires : goal.write_named-requires
write_named-requires c = set_room (goal.at.write_named-requires c).Start c.put.new.out c.put.auto.out _ c.set_run.ensures

pub write_named-requires-2 : goal.write_named-requires-2
write_named-requires-2 c =
    let same = c.write_named.auto.out ∙ c.put.auto.out in
    relation_room (goal.at.write_named-requires-2 c).Start c.write_named.new.out same _ c.relation_run.ensures

pub returns : goal.returns
returns c =
    let a = c.args in
    let start = (goal.at.returns c).Start in
    let same = c.write_named-2.auto.out ∙ c.write_named.auto.out ∙ c.put.auto.out in
    let put = nodes_put start c.write_named-2.new.out same in
    fields_written
    a.src.now a.n a.tables a.m (take (min a.count 127) a.nodes.now) (omega (arith, full start)) (omega (arith, full start))
    a.out.now _ _ _ _ _ _ (search rules) (search rules) (omega (arith, width start))
    c.set_run.ensures c.relation_run.ensures
    c.put.ensures c.write_named.ensures c.write_named-2.ensures (c.write_nodes.ensures ∙ put)
