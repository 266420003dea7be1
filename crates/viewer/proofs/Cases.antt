-- Worked examples: where refusals of the sample pair and of pairs like it are shown.
use Prim.Native.Nat.{ℕ, ◌+◌, ◌^◌, ◌-◌}
use mathlib.Core.List.{List, [], ◌∷◌}
use mathlib.Core.Path.{◌≡◌, refl}
use Rattle.bits.specs.Fields.{bit_length, bit_at, bits_at, is_there, field_at, field_or, first_set, fill_bits, further_byte, fill_from, fill_at}
use Rattle.handler.specs.Header.{size_read, add_size, sizes_read, count_read, head_at}
use Rattle.handler.specs.Expressions.{signed, integer_head, payload_head, tag_head, expr_head, expr_at, whole_expr}
use Rattle.handler.specs.Statements.{target_head, code_head, mark_head, stmt_head, stmt_at, whole_stmt}
use Rattle.handler.specs.Reading.{read_handler}
use Rattle.derivation.specs.Tables.{row_at, tables_there, is_count, relations_read, sets_read, tables_at}
use Rattle.derivation.specs.Nodes.{on_name, named_table, loop_head, names_head, rule_head, node_head, node_at, whole_node}
use Rattle.derivation.specs.Reading.{read_proof}
use Rattle.pair.specs.Limits.{too_long}
use Rattle.pair.specs.Reading.{read_pair}
use Rattle.checker.specs.declared.Place.TheVariants.{Bit, Node}
use Rattle.viewer.specs.View.{first_bits_of, node_byte, location_of, viewed, location_by_kind, location_number, view_of}

-- One variable c of size 2, c ← 1; and a proof file with 24 bits of tables, whose one node begins in byte 3.
abbrev handler_file_lem : List ℕ
handler_file_lem = 0x22 ∷ 0x20 ∷ 0x02 ∷ []

abbrev proof_file_lem : List ℕ
proof_file_lem = 0x08 ∷ 0xF0 ∷ 0x45 ∷ 0x20 ∷ 0x02 ∷ 0x40 ∷ []

-- The same tables with a sequence, at bit 24; a while, at bit 43; its skip, at bit 70; and an assignment, at bit 89.
abbrev four_nodes : List ℕ
four_nodes = 0x08 ∷ 0xF0 ∷ 0x45 ∷ 0x40 ∷ 0x02 ∷ 0x54 ∷ 0x00 ∷ 0x48 ∷ 0x04 ∷ 0x00 ∷ 0x09 ∷ 0x10 ∷ 0x01 ∷ 0x20 ∷ []

-- A view of the first pair with a bit and with a node.
abbrev bit : ℕ → ℕ → ℕ
bit k place = view_of handler_file_lem proof_file_lem k 0 place

abbrev node : ℕ → ℕ → ℕ
node k place = view_of handler_file_lem proof_file_lem k 1 place

-- 10 to 18 are shown in the handler file, which has 24 bits; 20 to 25 in the proof file, which has 48; no other number with a bit is shown.
abbrev bits : List ℕ
bits =
    bit 18 23 ∷ bit 10 24 ∷ bit 18 (2 ^ 64 - 1)
    ∷ bit 20 47 ∷ bit 25 48 ∷ bit 25 (2 ^ 64 - 1)
    ∷ bit 1 0 ∷ bit 2 0 ∷ bit 9 0 ∷ bit 19 0 ∷ bit 26 0 ∷ bit 43 0 ∷ bit 80 0 ∷ []

pub shown_bits : bits ≡ 2 ∷ 3 ∷ 3 ∷ (2 ^ 32 + 5) ∷ (2 ^ 32 + 6) ∷ (2 ^ 32 + 6) ∷ 3 ∷ 3 ∷ 3 ∷ 3 ∷ 3 ∷ 3 ∷ 3 ∷ []
unfolding location_of location_by_kind location_number view_of
shown_bits = refl

-- Node 0 begins in byte 3 of 6, and there is no node 1. Numbers without nodes, and kinds other than 0 and 1, are shown nowhere.
abbrev nodes : List ℕ
nodes =
    node 43 0 ∷ node 80 0 ∷ node 43 1 ∷ node 43 (2 ^ 32) ∷ node 43 (2 ^ 64 - 1)
    ∷ node 2 0 ∷ node 18 0 ∷ node 25 0 ∷ node 39 0 ∷ node 40 0 ∷ node 44 0 ∷ node 58 0 ∷ node 81 0
    ∷ view_of handler_file_lem proof_file_lem 43 2 0 ∷ view_of handler_file_lem proof_file_lem 18 2 0
    -- the four nodes, in bytes 3, 5, 8 and 11, and no fifth
    ∷ view_of handler_file_lem four_nodes 60 1 0 ∷ view_of handler_file_lem four_nodes 55 1 1 ∷ view_of handler_file_lem four_nodes 35 1 2
    ∷ view_of handler_file_lem four_nodes 43 1 3 ∷ view_of handler_file_lem four_nodes 43 1 4
    -- a handler file that is a byte short, and a proof file with a byte too many
    ∷ view_of (0x22 ∷ 0x20 ∷ []) proof_file_lem 43 1 0
    ∷ view_of handler_file_lem (0x08 ∷ 0xF0 ∷ 0x45 ∷ 0x20 ∷ 0x02 ∷ 0x40 ∷ 0x00 ∷ []) 43 1 0
    ∷ []

-- The bytes that are shown: of the node, its 19 bits and the fill; of a fill bit that is not zero, the last byte; of 2, nothing.
pub shown_nodes :
    (nodes
    ≡ (2 ^ 32 + 3) ∷ (2 ^ 32 + 3) ∷ (2 ^ 32 + 6) ∷ (2 ^ 32 + 6) ∷ (2 ^ 32 + 6) ∷ 3 ∷ 3 ∷ 3 ∷ 3 ∷ 3 ∷ 3 ∷ 3 ∷ 3 ∷ 3 ∷ 3
    ∷ (2 ^ 32 + 3) ∷ (2 ^ 32 + 5) ∷ (2 ^ 32 + 8) ∷ (2 ^ 32 + 11) ∷ (2 ^ 32 + 14) ∷ (2 ^ 32 + 6) ∷ (2 ^ 32 + 7) ∷ [])
    × (viewed handler_file_lem proof_file_lem 43 (Node 0) ≡ 0x20 ∷ 0x02 ∷ 0x40 ∷ [])
    × (viewed (0x22 ∷ 0x20 ∷ 0x03 ∷ []) proof_file_lem 18 (Bit 23) ≡ 0x03 ∷ [])
    × (viewed handler_file_lem proof_file_lem 2 (Bit 0) ≡ [])
unfolding bit_length bit_at bits_at is_there field_at field_or first_set fill_bits further_byte fill_from fill_at size_read add_size sizes_read count_read head_at signed integer_head payload_head tag_head expr_head expr_at whole_expr target_head code_head mark_head stmt_head stmt_at whole_stmt read_handler row_at tables_there is_count relations_read sets_read tables_at on_name named_table loop_head names_head rule_head node_head node_at whole_node read_proof too_long read_pair first_bits_of node_byte location_of viewed location_by_kind location_number view_of
shown_nodes = (refl, refl, refl, refl)
