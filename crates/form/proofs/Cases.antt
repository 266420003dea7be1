-- Worked examples over N = 2: the proof.bin of docs/FORMAT.md; the same proof under other numbers, with equal tables and with unmentioned
-- ones; a while with its K and W; and a sequence, whose left node comes first.
use Prim.Native.Nat.{ℕ}
use mathlib.Core.List.{List, [], ◌∷◌}
use mathlib.Core.Path.{◌≡◌, refl}
use Rattle.bits.specs.Fields.{bit_length, bit_at, bits_at, is_there, field_at, field_or, first_set, fill_bits, further_byte, fill_from, fill_at}
use Rattle.writer.specs.Writing.{with_bit, put_bit, put_bits}
use Rattle.writer.specs.Packing.{width_of, put_parts, bytes_for, packed}
use Rattle.derivation.specs.Tables.{set_at, row_at, tables_there, is_count, relations_read, sets_read, tables_at}
use Rattle.derivation.specs.Nodes.{on_name, named_table, loop_head, names_head, rule_head, node_head, node_at, whole_node}
use Rattle.derivation.specs.Reading.{ProofRead, proof, refused, read_proof}
use Rattle.form.specs.Members.{rename, set_members, relation_members, by_members}
use Rattle.form.specs.Mentions.{sets_of, relations_of, in_order, is_in, place_in, mentioned, all_mentioned, distinct}
use Rattle.form.specs.Form.{sets_in, relations_in, numbered, parts_of, file_parts, form_of}

-- The form of a file over two states, and nothing where the file has a fault.
abbrev on_read : List ℕ → ProofRead → List ℕ
on_read bytes (proof sets relations root d) = form_of 2 (by_members bytes 2 sets d)
on_read bytes (refused k place) = []

-- Opens every definition, for the cases to compute.
pub form_of_file : List ℕ → List ℕ
unfolding read_proof tables_at sets_read relations_read is_count tables_there whole_node node_at node_head rule_head names_head loop_head named_table on_name
    field_at field_or is_there bit_length fill_at fill_from further_byte fill_bits first_set
    form_of file_parts parts_of numbered sets_in relations_in distinct all_mentioned mentioned place_in is_in in_order sets_of relations_of
    by_members set_members relation_members rename set_at row_at bits_at bit_at packed put_parts width_of bytes_for put_bits put_bit with_bit
form_of_file bytes = on_read bytes (read_proof bytes 2)

-- One set {0,1}; relations none, {(0,1)}, {(0,1),(1,1)}; an assignment node with P 0, R 0, G 1, Q 2. It is its own form.
abbrev sample : List ℕ
sample = 0x08 ∷ 0xF0 ∷ 0x45 ∷ 0x20 ∷ 0x02 ∷ 0x40 ∷ []

pub sample_form : form_of_file sample ≡ sample
unfolding form_of_file
sample_form = refl

-- The same proof with its relations in another order: P 0, R 1, G 2, Q 0.
pub other_numbers : form_of_file (0x08 ∷ 0xF5 ∷ 0x04 ∷ 0x20 ∷ 0x24 ∷ 0x00 ∷ []) ≡ sample
unfolding form_of_file
other_numbers = refl

-- With its set twice and the empty relation twice: P 1, R 2, G 1, Q 3.
pub equal_tables : form_of_file (0x11 ∷ 0x3C ∷ 0x10 ∷ 0x14 ∷ 0x89 ∷ 0x09 ∷ 0x80 ∷ []) ≡ sample
unfolding form_of_file
equal_tables = refl

-- With a set and a relation before them that the node does not name: P 1, R 1, G 2, Q 3.
pub unmentioned_tables : form_of_file (0x11 ∷ 0x1F ∷ 0xC1 ∷ 0x14 ∷ 0x88 ∷ 0x91 ∷ 0x80 ∷ []) ≡ sample
unfolding form_of_file
unmentioned_tables = refl

-- A while over a skip, with P 2, R 3, G 2, Q 1, K 1, W 0 and P 0, R 0, G 1, Q 2: three sets and four relations, all different. In the
-- form the while has P 0, R 0, G 1, Q 2, K 1, W 3 and the skip P 2, R 3, G 2, Q 1.
pub while_tables : form_of_file (0x19 ∷ 0x06 ∷ 0x12 ∷ 0x48 ∷ 0xA4 ∷ 0x64 ∷ 0x22 ∷ 0x00 ∷ 0x00 ∷ 0x48 ∷ [])
    ≡ 0x19 ∷ 0x24 ∷ 0x84 ∷ 0x21 ∷ 0xA0 ∷ 0x02 ∷ 0x42 ∷ 0x60 ∷ 0x8C ∷ 0x84 ∷ []
unfolding form_of_file
while_tables = refl

-- A sequence over two skips, with P 1 and R, G, Q 1; P 2, R 2, G 1, Q 1; P 0, R 0, G 1, Q 2. The left node's tables come before the
-- right node's: in the form P 0 and R, G, Q 0; P 1, R 1, G 0, Q 0; P 2, R 2, G 0, Q 1.
pub left_first : form_of_file (0x18 ∷ 0xC6 ∷ 0x12 ∷ 0x44 ∷ 0x22 ∷ 0x22 ∷ 0x08 ∷ 0x84 ∷ 0x40 ∷ 0x00 ∷ 0x90 ∷ [])
    ≡ 0x18 ∷ 0xD8 ∷ 0x24 ∷ 0x14 ∷ 0x00 ∷ 0x00 ∷ 0x04 ∷ 0x40 ∷ 0x01 ∷ 0x10 ∷ 0x08 ∷ []
unfolding form_of_file
left_first = refl
