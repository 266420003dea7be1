-- Worked examples: the lines of the least and the greatest step number, of a file that was written, of two pairs that were composed or not
-- and of the guests of a core, and the roots of some pairs.
use Rattle.std.specs.Prelude.{Ok}
use Prim.Native.Nat.{ℕ, ◌+◌, ◌*◌, ◌^◌}
use mathlib.Core.List.{List, [], ◌∷◌}
use mathlib.Core.Path.{◌≡◌, refl}
use Rattle.bits.specs.Fields.{bit_length, bit_at, bits_at, is_there, field_at, field_or, first_set, fill_bits, further_byte, fill_from, fill_at}
use Rattle.handler.specs.Header.{size_read, add_size, sizes_read, count_read, head_at}
use Rattle.handler.specs.Expressions.{signed, integer_head, payload_head, tag_head, expr_head, expr_at, whole_expr}
use Rattle.handler.specs.Statements.{target_head, code_head, mark_head, stmt_head, stmt_at, whole_stmt}
use Rattle.handler.specs.Reading.{read_handler}
use Rattle.derivation.specs.Tables.{row_at, tables_there, is_count, relations_read, sets_read, tables_at}
use Rattle.derivation.specs.Nodes.{on_name, named_table, loop_head, names_head, rule_head, node_head, node_at, whole_node}
use Rattle.derivation.specs.Reading.{read_proof}
use Rattle.pair.specs.Limits.{too_long}
use Rattle.pair.specs.Reading.{read_pair}
use Rattle.checker.specs.declared.Place.TheVariants.{Bit, Node}
use Rattle.checker.specs.Verdicts.{refused_at}
use Rattle.report.specs.Line.{ascii, digits, decimal, place_text, verdict_text, line_of, pair_text, pair_line, written_line, composed_line, guest_text, slot_line, turned_line, left_line}
use Rattle.report.specs.Root.{root_of}
use Rattle.report.proofs.Marked.{sample_handler, sample_proof}

pub step_numbers :
    (line_of (Ok 0) ≡ ascii "accepted 0\n") × (line_of (Ok 4294967295) ≡ ascii "accepted 4294967295\n")
unfolding line_of verdict_text place_text decimal digits
step_numbers = (refl, refl)

pub length_written : written_line 388 ≡ ascii "written 388\n"
unfolding written_line decimal digits
length_written = refl

pub pairs_composed :
    (composed_line 4294967295 ≡ ascii "composed 4294967295\n")
    × (pair_line (refused_at 31 (Node 2)) 1 ≡ ascii "refused 31 node 2 first pair\n")
    × (pair_line (refused_at 2 (Bit 0)) 2 ≡ ascii "refused 2 bit 0 second pair\n")
    × (pair_line (refused_at 90 (Bit 0)) 0 ≡ ascii "refused 90 bit 0\n")
unfolding composed_line pair_line pair_text verdict_text place_text decimal digits
pairs_composed = (refl, refl, refl, refl)

pub guests_tried :
    (slot_line 15 0 1000000 ≡ ascii "place 15 first 0 length 1000000\n")
    × (turned_line 2 (refused_at 103 (Bit 0)) ≡ ascii "place 2 refused 103 bit 0\n")
    × (turned_line 0 (refused_at 43 (Node 7)) ≡ ascii "place 0 refused 43 node 7\n")
    × (left_line 866 ≡ ascii "left over 866\n")
unfolding slot_line turned_line left_line guest_text verdict_text place_text decimal digits
guests_tried = (refl, refl, refl, refl)

-- The sample: 2 states, and P 0, R 0, G 1, Q 2. A pair that is refused, because with G 0 it breaks 43, has a root all the same. A handler
-- file that is a byte short, and a proof file with a byte too many, give 0.
abbrev roots : List ℕ
roots =
    root_of sample_handler sample_proof
    ∷ root_of sample_handler (0x08 ∷ 0xF0 ∷ 0x45 ∷ 0x20 ∷ 0x00 ∷ 0x40 ∷ [])
    ∷ root_of (0x22 ∷ 0x20 ∷ []) sample_proof
    ∷ root_of sample_handler (0x08 ∷ 0xF0 ∷ 0x45 ∷ 0x20 ∷ 0x02 ∷ 0x40 ∷ 0x00 ∷ [])
    ∷ []

pub some_roots : roots ≡ (2 + 2 ^ 24 * 1 + 2 ^ 32 * 2) ∷ (2 + 2 ^ 32 * 2) ∷ 0 ∷ 0 ∷ []
unfolding bit_length bit_at bits_at is_there field_at field_or first_set fill_bits further_byte fill_from fill_at size_read add_size sizes_read count_read head_at signed integer_head payload_head tag_head expr_head expr_at whole_expr target_head code_head mark_head stmt_head stmt_at whole_stmt read_handler row_at tables_there is_count relations_read sets_read tables_at on_name named_table loop_head names_head rule_head node_head node_at whole_node read_proof too_long read_pair root_of
some_roots = refl
