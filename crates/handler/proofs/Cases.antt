-- Worked examples by computation: the handler file of docs/FORMAT.md, and 10 to 18 with their places, except the cases of
-- `twelve` in the crate `report`.
use Prim.Native.Nat.{ℕ, ◌+◌, ◌*◌, ◌^◌}
use mathlib.Core.Bool.{true}
use mathlib.Core.List.{List, [], ◌∷◌, ◌++◌}
use mathlib.Core.Path.{◌≡◌, refl}
use lib.IntN.{pos, negsuc}
use lib.ListN.{replicate}
use Rattle.bits.specs.Fields.{bit_length, fault_at, field_or, bit_at, bits_at, is_there, field_at, first_set, fill_bits, further_byte, fill_from, fill_at}
use Rattle.semantics.specs.Language.{Expr, lit, int, truth, var, op, nil, assign}
use Rattle.std.specs.Prelude.{Ok, Err, Some, option_map}
use Rattle.std.specs.Result.{result_ok}
use Rattle.handler.specs.Header.{size_read, add_size, sizes_read, count_read, head_at, head_of}
use Rattle.handler.specs.Expressions.{signed, integer_head, truth_head, variable_head, operation_head, payload_head, tag_head, expr_head, expr_at, whole_expr}
use Rattle.handler.specs.Statements.{target_head, code_head, mark_head, stmt_head, stmt_at, whole_stmt}
use Rattle.handler.specs.StatementTable.{statement_word, word_of, statement_table}
use Rattle.handler.specs.Reading.{handler, refused, read_handler}
use Rattle.handler.specs.Terms.{bits16, signed16, term_word, first_word, term_words, term_of, term_in, expr_from, expr_in}
use Rattle.handler.specs.Shapes.{handler_file, terms_after}

-- Unfolds all that reading a file computes with.
opened : Unit {0}
unfolding handler_file terms_after term_word first_word bits16 head_of statement_table word_of statement_word read_handler head_at count_read sizes_read add_size size_read whole_stmt stmt_at stmt_head mark_head code_head target_head whole_expr expr_at expr_head tag_head payload_head integer_head truth_head variable_head operation_head signed field_or field_at is_there bits_at bit_at bit_length fill_at fill_from further_byte fill_bits first_set
opened = tt

-- One variable of size 2; 16 sequences, each the left side of the one before, leave the 17th level at bit 56.
abbrev deep : List ℕ
deep = 0x22 ∷ 0x49 ∷ 0x24 ∷ 0x92 ∷ 0x49 ∷ 0x24 ∷ 0x92 ∷ []

-- 31 operations, each the left operand of the one before, leave the 32nd node at bit 168.
abbrev wide : List ℕ
wide =
    0x22 ∷ 0x26 ∷ 0x31 ∷ 0x8C ∷ 0x63 ∷ 0x18 ∷ 0xC6 ∷ 0x31 ∷ 0x8C ∷ 0x63 ∷ 0x18 ∷ 0xC6 ∷ 0x31 ∷ 0x8C ∷ 0x63 ∷ 0x18 ∷ 0xC6 ∷ 0x31 ∷ 0x8C
    ∷ 0x63 ∷ 0x18 ∷ 0 ∷ []

-- 31 sequences and 32 nils are 63 statements; under an if they are 64, the last of them at bit 200.
abbrev many : List ℕ
many =
    0x22 ∷ 0x49 ∷ 0x24 ∷ 0x02 ∷ 0x01 ∷ 0x20 ∷ 0x10 ∷ 0x09 ∷ 0x20 ∷ 0x10 ∷ 0x09 ∷ 0x00 ∷ 0x80 ∷ 0x49 ∷ 0x20 ∷ 0x10 ∷ 0x09 ∷ 0x00 ∷ 0x80
    ∷ 0x49 ∷ 0x00 ∷ 0x80 ∷ 0x48 ∷ 0x04 ∷ 0x00 ∷ []

abbrev too_many : List ℕ
too_many =
    0x22 ∷ 0x8D ∷ 0x24 ∷ 0x90 ∷ 0x08 ∷ 0x04 ∷ 0x80 ∷ 0x40 ∷ 0x24 ∷ 0x80 ∷ 0x40 ∷ 0x24 ∷ 0x02 ∷ 0x01 ∷ 0x24 ∷ 0x80 ∷ 0x40 ∷ 0x24 ∷ 0x02
    ∷ 0x01 ∷ 0x24 ∷ 0x02 ∷ 0x01 ∷ 0x20 ∷ 0x10 ∷ 0x00 ∷ []

-- Sizes 8 and 8, and 15 nested loops over nil with a true test: more than 2 ^ 91 steps.
abbrev loops : List ℕ
loops = 0x48 ∷ 0x45 ∷ 0x75 ∷ 0xD7 ∷ 0x5D ∷ 0x75 ∷ 0xD7 ∷ 0x5D ∷ 0x75 ∷ 0xD7 ∷ 0x5D ∷ 0x75 ∷ 0xD6 ∷ 0x00 ∷ []

-- Variable 1 is less than −1, and true.
abbrev compound : Expr
compound = op 5 (op 2 (var 1) (lit (int (negsuc 0)))) (lit (truth true))

pub handlers :
    (read_handler (0x22 ∷ 0x20 ∷ 0x02 ∷ []) ≡ handler (2 ∷ []) 8 (assign 0 (lit (int (pos 1)))))
    × (read_handler (0x30 ∷ 0x00 ∷ []) ≡ handler (16 ∷ []) 8 nil)
    × (handler_file (read_handler (0x22 ∷ 0x20 ∷ 0x02 ∷ [])) ≡ Ok (record {
      summary = record { at = 8; end = 23; statements = 1; levels = 1; steps = 1 };
      head = record { count = 1; sizes = 2 ∷ 1 ∷ 1 ∷ 1 ∷ []; states = 2 };
      statements = (1 + 8 * (0 + 4 * (1 + 128 * (0 + 2048 * 8)))) ∷ replicate 62 0;
    }))
    × (option_map (λ file. file.summary) (result_ok (handler_file (read_handler many))) ≡ Some (record { at = 8; end = 197; statements = 63; levels = 6; steps = 31 }))
    × (option_map (λ file. file.summary) (result_ok (handler_file (read_handler loops))) ≡ Some (record { at = 13; end = 106; statements = 16; levels = 16; steps = 2 ^ 32 }))
    × (handler_file (read_handler []) ≡ Err (fault_at 10 0))
unfolding opened
handlers = (refl, refl, refl, refl, refl, refl)

-- The nodes of the first handler's expression, the constant 1, in buffers with more and with no room; after a fault all words are 0.
-- An expression is found at its number in the table, with its negative constant.
pub exprs :
    (terms_after (read_handler (0x22 ∷ 0x20 ∷ 0x02 ∷ [])) (7 ∷ 7 ∷ []) ≡ 4 ∷ 7 ∷ []) × (terms_after (read_handler (0x22 ∷ 0x20 ∷ 0x02 ∷ [])) [] ≡ [])
    × (terms_after (read_handler []) (7 ∷ 7 ∷ []) ≡ 0 ∷ 0 ∷ [])
    × (term_words 1 compound ≡ (3 + 4 * (5 + 65536 * 5)) ∷ (3 + 4 * (2 + 65536 * 4)) ∷ 6 ∷ (4 * 65535) ∷ 5 ∷ [])
    × (expr_in (0 ∷ term_words 1 compound) 1 ≡ compound)
unfolding opened signed16 term_of term_in expr_from expr_in
exprs = (refl, refl, refl, refl, refl)

-- 10: a missing code on the 17th level. 11. 12, before 13.
pub heads :
    (read_handler deep ≡ refused 10 56) × (read_handler (0x00 ∷ []) ≡ refused 11 0) × (read_handler (0xA0 ∷ []) ≡ refused 11 0)
    × (read_handler (0x21 ∷ []) ≡ refused 12 3) × (read_handler (0x31 ∷ []) ≡ refused 12 3) × (read_handler (0x4D ∷ 0x88 ∷ []) ≡ refused 12 8)
unfolding opened
heads = (refl, refl, refl, refl, refl, refl)

-- 14: code 6, operation 7. 15: a target, a variable. 17, before the code is looked at: the level, the node, the statement.
pub nodes :
    (read_handler (0x22 ∷ 0xC0 ∷ []) ≡ refused 14 8) × (read_handler (0x22 ∷ 0x27 ∷ 0xC0 ∷ []) ≡ refused 14 15)
    × (read_handler (0x22 ∷ 0x28 ∷ []) ≡ refused 15 11) × (read_handler (0x22 ∷ 0x24 ∷ 0x80 ∷ []) ≡ refused 15 15)
    × (read_handler (deep ++ 0x00 ∷ []) ≡ refused 17 56) × (read_handler (deep ++ 0xE0 ∷ []) ≡ refused 17 56) × (read_handler wide ≡ refused 17 168)
    × (read_handler too_many ≡ refused 17 200)
unfolding opened
nodes = (refl, refl, refl, refl, refl, refl, refl, refl)

-- 16: an assigned truth value, an operand of +. 18: a byte after the last field, a fill bit before 16.
pub fill_faults :
    (read_handler (0x22 ∷ 0x23 ∷ []) ≡ refused 16 13) × (read_handler (0x22 ∷ 0x26 ∷ 0x1C ∷ 0x00 ∷ []) ≡ refused 16 18)
    × (read_handler (0x22 ∷ 0x20 ∷ 0x02 ∷ 0x00 ∷ []) ≡ refused 18 24) × (read_handler (0x22 ∷ 0x23 ∷ 0x80 ∷ []) ≡ refused 18 16)
unfolding opened
fill_faults = (refl, refl, refl, refl)
