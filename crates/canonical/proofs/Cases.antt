-- Worked examples over N = 2, the handler file 22 20 02 of docs/FORMAT.md: the examples of "One form", the room that the form needs, what
-- becomes of the buffer, and which fault comes first; then nodes by themselves.
use Rattle.std.specs.Prelude.{Ok}
use Prim.Native.Nat.{ℕ, ◌*◌, ◌^◌, min}
use mathlib.Core.List.{List, [], ◌∷◌, ◌++◌, flat_map}
use mathlib.Core.Path.{◌≡◌, refl}
use lib.ListN.{replicate, take}
use Rattle.bits.specs.Fields.{bit_length, bit_at, bits_at, is_there, field_at, field_or, first_set, fill_bits, further_byte, fill_from, fill_at}
use Rattle.writer.specs.Writing.{with_bit, put_bit, put_bits, has_room}
use Rattle.writer.specs.Packing.{width_of, put_parts, put_all, bytes_for, packed}
use Rattle.handler.specs.Header.{size_read, add_size, sizes_read, count_read, head_at}
use Rattle.handler.specs.Expressions.{signed, integer_head, payload_head, tag_head, expr_head, expr_at, whole_expr}
use Rattle.handler.specs.Statements.{target_head, code_head, mark_head, stmt_head, stmt_at, whole_stmt}
use Rattle.handler.specs.Reading.{read_handler}
use Rattle.derivation.specs.Tables.{set_at, row_at, tables_there, is_count, relations_read, sets_read, tables_at}
use Rattle.derivation.specs.Nodes.{on_name, named_table, loop_head, names_head, rule_head, node_head, node_at, whole_node}
use Rattle.derivation.specs.Reading.{read_proof}
use Rattle.derivation.specs.declared.Node.{Node}
use Rattle.derivation.specs.NodeTable.{node_of}
use Rattle.pair.specs.Limits.{too_long}
use Rattle.pair.specs.Reading.{read_pair}
use Rattle.form.specs.Members.{node_by, rename, set_members, relation_members, by_members}
use Rattle.form.specs.Mentions.{sets_of, relations_of, in_order, is_in, place_in, mentioned, all_mentioned, distinct}
use Rattle.form.specs.Form.{sets_in, relations_in, numbered, parts_of, file_parts, form_of}
use Rattle.report.specs.Code.{place_kind, index_of, code_of}
use Rattle.canonical.specs.Nodes.{name_in, held_in}
use Rattle.canonical.specs.Canonical.{Form, form, fault, canonical, turned_away, outcome, out_after}

-- Opens every definition, for the cases to compute.
pub written : List ℕ → List ℕ → Form
unfolding canonical read_pair too_long read_handler head_at count_read sizes_read add_size size_read whole_stmt stmt_at stmt_head mark_head code_head target_head
    whole_expr expr_at expr_head tag_head payload_head integer_head signed
    read_proof tables_at sets_read relations_read is_count tables_there whole_node node_at node_head rule_head names_head loop_head named_table on_name
    field_at field_or is_there bit_length fill_at fill_from further_byte fill_bits first_set
    form_of file_parts parts_of numbered sets_in relations_in distinct all_mentioned mentioned place_in is_in in_order sets_of relations_of
    by_members set_members relation_members rename set_at row_at bits_at bit_at packed put_parts width_of bytes_for put_bits put_bit with_bit
written hb pb = canonical hb pb

abbrev handler_file_lem : List ℕ
handler_file_lem = 0x22 ∷ 0x20 ∷ 0x02 ∷ []

-- A file with a set that no node names and the relation {(0,1)} twice, and its form.
abbrev proof_file_lem : List ℕ
proof_file_lem = 0x11 ∷ 0x0D ∷ 0x50 ∷ 0x13 ∷ 0x09 ∷ 0x08 ∷ 0x11 ∷ 0x23 ∷ 0x00 ∷ []

abbrev its_form : List ℕ
its_form = 0x08 ∷ 0xF0 ∷ 0x45 ∷ 0xC0 ∷ 0x02 ∷ 0x44 ∷ 0x00 ∷ 0x48 ∷ []

pub example : written handler_file_lem proof_file_lem ≡ form its_form
unfolding written
example = refl

-- The proof file of the worked example is its own form; the last of its damaged files names relations 0 and 2 only.
pub already : written handler_file_lem (0x08 ∷ 0xF0 ∷ 0x45 ∷ 0x20 ∷ 0x02 ∷ 0x40 ∷ []) ≡ form (0x08 ∷ 0xF0 ∷ 0x45 ∷ 0x20 ∷ 0x02 ∷ 0x40 ∷ [])
unfolding written
already = refl

pub damaged : written handler_file_lem (0x08 ∷ 0xF0 ∷ 0x45 ∷ 0x20 ∷ 0x00 ∷ 0x40 ∷ []) ≡ form (0x08 ∷ 0xB0 ∷ 0x52 ∷ 0x00 ∷ 0x02 ∷ [])
unfolding written
damaged = refl

-- Its 8 bytes fit into 8, and the ninth byte stays; 7 are too few, and all stay.
abbrev bytes : ℕ → List ℕ
bytes k = replicate k 0xFF

pub fits : (outcome (form its_form) 8 ≡ Ok 8) × (out_after (form its_form) (bytes 9) ≡ its_form ++ 0xFF ∷ [])
unfolding outcome out_after
fits = (refl, refl)

pub too_short : (outcome (form its_form) 7 ≡ turned_away 3 0) × (out_after (form its_form) (bytes 7) ≡ bytes 7)
unfolding outcome out_after
too_short = (refl, refl)

-- The numbers of these two outcomes.
pub numbers : (code_of (outcome (form its_form) 8) ≡ 8) × (code_of (outcome (form its_form) 7) ≡ 3 * 2 ^ 33)
unfolding outcome code_of place_kind index_of
numbers = (refl, refl)

-- A fault of the handler file, a fill bit that is not zero, comes before one of the proof file, a byte too many; and that before 3.
abbrev byte_too_many : List ℕ
byte_too_many = proof_file_lem ++ 0 ∷ []

pub handler_first : written (0x22 ∷ 0x20 ∷ 0x03 ∷ []) byte_too_many ≡ fault 18 23
unfolding written
handler_first = refl

pub proof_before_room : outcome (written handler_file_lem byte_too_many) 0 ≡ turned_away 25 72
unfolding written outcome
proof_before_room = refl

-- A while; a node with rule 10, written as 2, and P = 17, written as 1; and a while for which there is no room.
abbrev node : ℕ → Node
node rule = record { rule = rule; names = record { p = 17; r = 2; g = 3; q = 4 }; k = 5; w = 6; after = 0; bit = 0 }

pub nodes_alone :
    (put_all (replicate 4 0) 0 (parts_of (node 5)) ≡ 0xa2 ∷ 0x46 ∷ 0x8a ∷ 0xc0 ∷ [])
    × (put_all (replicate 3 0) 1 (parts_of (node 10)) ≡ 0x21 ∷ 0x23 ∷ 0x40 ∷ [])
    × (put_all (replicate 3 0) 0 (parts_of (node 5)) ≡ replicate 3 0)
unfolding put_all has_room put_parts width_of put_bits put_bit with_bit parts_of
nodes_alone = (refl, refl, refl)

-- The one node of a table under new names.
pub node_renamed :
    put_all (replicate 3 0) 0 (held_in (λ x. parts_of (node_by (name_in (7 ∷ [])) (name_in (9 ∷ [])) x)) (take (min 200 127) (0 ∷ [])))
    ≡ 0x0f ∷ 0x33 ∷ 0x20 ∷ []
unfolding put_all has_room put_parts width_of put_bits put_bit with_bit parts_of held_in flat_map node_of name_in
node_renamed = refl
