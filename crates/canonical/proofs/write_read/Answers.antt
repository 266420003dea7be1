-- The length is that of the form; what is put into cleared bytes is the form, and the bytes past it stay.
use Prim.Native.Nat.{ℕ, ◌+◌, ◌*◌, ◌/◌, min}
use mathlib.Core.List.{List}
use mathlib.Core.Path.{◌≡◌, sym, ◌∙◌, ap, ap₂}
use native.Mathlib.Nat.{min-eq_left}
use native.Mathlib.Omega.{arith}
use lib.ListN.{length, take, drop}
use Rattle.writer.specs.Packing.{width_of, put_parts}
use Rattle.writer.proofs.Copied.{cleared_within}
use Rattle.semantics.specs.Derivations.{Derivation, nodes}
use Rattle.derivation.specs.NodeTable.{node_table}
use Rattle.derivation.proofs.Files.{read_known}
use Rattle.form.specs.Members.{by_members}
use Rattle.form.specs.Form.{sets_in, relations_in, numbered, parts_of, file_parts, form_of}
use Rattle.form.proofs.FileRead.{states_least, states_most}
use Rattle.canonical.specs.Nodes.{held_in}
use Rattle.canonical.specs.Refinement.{Read, Numbers, parts_in}
use Rattle.canonical.proofs.Fields.{parts_are, width_is, length_is, form_put}
use Rattle.canonical.proofs.Outcomes.{no_room, with_room_lem}
use Rattle.derivation.specs.declared.ProofHead.{ProofHead}
use Rattle.canonical.specs.declared.Numbering.{Numbering}
use Rattle.canonical.proofs.write_read.Goals as goal

-- The file as it was read, and its derivation by members.
module _ (bytes : List ℕ) (n : ℕ) (head : ProofHead) (table : List ℕ) (x : Read bytes n head table) where
  abbrev meaning : Derivation
  meaning = by_members bytes n head.sets x.d

  -- The words of the nodes are those of the derivation that was read.
  words : take (min head.nodes 127) table ≡ take (nodes x.d) (node_table head.root x.d)
  words =
      let few = (read_known _ _ _ _ _ _ x.read).nodes_most in
      ap₂ take (min-eq_left (rw x.counted few) ∙ x.counted) x.table

  -- Where the tables are numbered.
  module _ (m : Numbering) (numbers : Numbers bytes n head.sets x.d m) where
    -- The fields that are written, and how many bits they have.
    parts : parts_in bytes n head.sets m (take (min head.nodes 127) table)
        ≡ file_parts n (sets_in meaning) (relations_in meaning) (numbered meaning)
    parts = ap (parts_in bytes n head.sets m) words ∙ parts_are _ _ _ _ _ x.d x.read _ numbers

    bits : (k : ℕ)
        → k ≡ 10 + n * m.sets.count + n * n * m.relations.count + width_of (held_in parts_of (take (min head.nodes 127) table))
        → k ≡ width_of (file_parts n (sets_in meaning) (relations_in meaning) (numbered meaning))
    bits k is =
        is
        ∙ ap (λ ws. 10 + n * m.sets.count + n * n * m.relations.count + width_of (held_in parts_of ws)) words
        ∙ sym (width_is _ _ _ _ _ x.d x.read m numbers)

    long : (k : ℕ)
        → k ≡ 10 + n * m.sets.count + n * n * m.relations.count + width_of (held_in parts_of (take (min head.nodes 127) table))
        → (k + 7) / 8 ≡ length (form_of n meaning)
    long k is = length_is _ _ _ _ _ x.d x.read _ numbers _ (bits k is)

pub form_bits-requires : goal.form_bits-requires
form_bits-requires c =
    let x = c.requires in
    let numbers = c.number-m.ensures x.d x.read in
    (states_most _ _ _ _ _ _ x.read, numbers.of_sets.most, numbers.of_relations.most)

pub returns-then-out-length : goal.returns-then-out-length
returns-then-out-length c =
    let out = c.args.out.now in
    let fails = λ (x : Read c.args.proof.now c.args.n c.args.head c.args.nodes.now). no_room _ out _
    (long _ _ _ _ x _ (c.number-m.ensures x.d x.read) _ c.form_bits.ensures.0) c.if-out-length.true
    in record {
      answer = λ x. c.refused.ensures ∙ (fails x).0;
      bytes = λ x. (fails x).1;
    }

pub write_fields-requires : goal.write_fields-requires
write_fields-requires c =
    let x = c.requires in
    let numbers = c.number-m.ensures x.d x.read in
    let shown = read_known _ _ _ _ _ _ x.read in
    let width = ap width_of (parts _ _ _ _ x _ numbers) ∙ sym (bits _ _ _ _ x _ numbers _ c.form_bits.ensures.0) in (
      (states_least _ _ _ _ _ _ x.read, states_most _ _ _ _ _ _ x.read, shown.sets_most, numbers.of_sets.most, numbers.of_relations.most),
      (rw width (omega arith), rw width (omega (arith, c.form_bits.ensures.1))),
    )

pub returns : goal.returns
returns c =
    let a = c.args in
    let enough = c.if-out-length.false in
    let cleared = c.clear.ensures ∙ cleared_within a.out.now _ enough in
    let shown = λ (x : Read a.proof.now a.n a.head a.nodes.now). long _ _ _ _ x _ (c.number-m.ensures x.d x.read) _ c.form_bits.ensures.0 in
    record {
      answer = λ x. (with_room_lem _ a.out.now _ (shown x) enough).0;
      bytes = λ x. c.write_fields.ensures
          ∙ ap₂ (λ o ws. put_parts o 0 (parts_in a.proof.now a.n a.head.sets c.number-m.result ws)) cleared (words _ _ _ _ x)
          ∙ form_put _ _ _ _ _ x.d x.read _ (c.number-m.ensures x.d x.read) _ (drop ((c.form_bits.result + 7) / 8) a.out.now) (shown x)
          ∙ (with_room_lem _ a.out.now _ (shown x) enough).1;
    }
