-- The twelve marked cases, as one list and one theorem about the definitions. Each case is the bytes that the check program prints, or
-- the numbers that docs/FORMAT.md and docs/RULES.md state.
use Prim.Native.Nat.{ℕ}
use mathlib.Core.Path.{◌≡◌, refl}
use mathlib.Core.Bool.{true, cond, not}
use mathlib.Core.List.{List, [], ◌∷◌}
use mathlib.Core.Option.{Option, none, some}
use lib.Dec.{eqb}
use lib.IntN.{pos}
use Rattle.bits.specs.Fields.{bit_length, bit_at, bits_at, is_there, field_at, field_or, first_set, fill_bits, further_byte, fill_from, fill_at}
use Rattle.states.specs.Search.{implies, all, any, must, given, named, or_else, each, holds}
use Rattle.states.specs.Relations.{within, reach}
use Rattle.semantics.specs.declared.Names.{Names}
use Rattle.semantics.specs.Language.{Expr, lit, var, op, int, Stmt, nil, assign, seq, while}
use Rattle.semantics.specs.States.{product, value_of, machine_of}
use Rattle.semantics.specs.Steps.{at, is_nil}
use Rattle.semantics.specs.Runs.{Event, own, other, on_step, run, steps_made}
use Rattle.semantics.specs.StepNumber.{steps}
use Rattle.semantics.specs.Derivations.{skip, iteration, Tables}
use Rattle.semantics.specs.Conditions.{in_set, same_set, same_relation, set_lies_in, relation_lies_in, is_true, is_false, after_store, to_after, moves, c31, c32, c33, c34, c35, c36, c37, c38, unmoved, c41, c42, c43, c50, c51, c52, c53, c54, c55, c56, c57}
use Rattle.semantics.specs.Checking.{Broken, first_fault}
use Rattle.handler.specs.Header.{size_read, add_size, sizes_read, count_read, head_at}
use Rattle.handler.specs.Expressions.{signed, integer_head, truth_head, variable_head, operation_head, payload_head, tag_head, expr_head, expr_at, whole_expr}
use Rattle.handler.specs.Statements.{target_head, code_head, mark_head, stmt_head, stmt_at, whole_stmt}
use Rattle.handler.specs.Reading.{HandlerRead, handler, refused, read_handler}
use Rattle.derivation.specs.Tables.{work_words, set_at, row_at, tables_there, is_count, relations_read, sets_read, tables_at, in_set_of, in_relation_of}
use Rattle.derivation.specs.Nodes.{on_name, named_table, loop_head, names_head, rule_head, node_head, node_at, whole_node}
use Rattle.derivation.specs.Reading.{read_proof}
use Rattle.pair.specs.Limits.{too_long}
use Rattle.pair.specs.Reading.{read_pair}
use Rattle.pair.specs.Modes.{rows}
use Rattle.checker.specs.Verdicts.{answer}
use Rattle.report.specs.Line.{ascii, digits, decimal, place_text, verdict_text, line_of}

-- What the check program prints for two files.
abbrev line : List ℕ → List ℕ → List ℕ
line hb pb = line_of (answer hb pb rows work_words).verdict

-- One variable c of size 2, c ← 1; and the proof with P {0,1}, R none, G {(0,1)}, Q {(0,1),(1,1)}.
abbrev pub sample_handler : List ℕ
sample_handler = 0x22 ∷ 0x20 ∷ 0x02 ∷ []

abbrev pub sample_proof : List ℕ
sample_proof = 0x08 ∷ 0xF0 ∷ 0x45 ∷ 0x20 ∷ 0x02 ∷ 0x40 ∷ []

-- d ← c + c, with c variable 0 of size 2 and d variable 1 of size 3.
abbrev twice : Stmt
twice = assign 1 (op 0 (var 0) (var 0))

-- A run of it from state 0, where c and d are 0: the steps made and d's value, if nil remains.
abbrev steps_and_value : List Event → List ℕ
steps_and_value events =
    on_step (run (machine_of (2 ∷ 3 ∷ [])) events (at twice 0)) []
    (λ c. cond (is_nil c.rest) (steps_made events ∷ value_of (2 ∷ 3 ∷ []) c.state 1 ∷ []) [])

-- A while's test (c = 0) ∨ (c = 1).
abbrev either : Expr
either = op 6 (op 3 (var 0) (lit (int (pos 0)))) (op 3 (var 0) (lit (int (pos 1))))

-- c has size 2. One set of both states; relation 0 lets others change c, relation 1 has all pairs, relation 2 none.
abbrev both_ways : Tables
both_ways =
    record { machine = machine_of (2 ∷ []); sets = λ i s. true; relations = λ i s u. cond (eqb i 0) (not (eqb s u)) (eqb i 1) }

-- The tables of a node: all states, that rely, no guarantee, and relation q as postcondition.
abbrev under : ℕ → Names
under q = record { p = 0; r = 0; g = 2; q = q }

-- N of a handler file, or the number and place of its fault.
abbrev size_or_fault : HandlerRead → List ℕ
size_or_fault (handler sizes at S) = product sizes ∷ []
size_or_fault (refused k place) = k ∷ place ∷ []

abbrev number_and_node : Option Broken → List ℕ
number_and_node none = []
number_and_node (some b) = b.number ∷ b.node ∷ []

abbrev marked : List (List ℕ)
marked =
    line sample_handler sample_proof
    ∷ line sample_handler (0x08 ∷ 0xF0 ∷ 0x45 ∷ 0x20 ∷ 0x00 ∷ 0x40 ∷ [])
    ∷ line [] sample_proof
    ∷ line (0x22 ∷ []) sample_proof
    ∷ line (0x22 ∷ 0x20 ∷ 0x03 ∷ []) sample_proof
    -- d ← c + c takes 4 steps; reads of c as 0 then 1 give the odd value 1: c is read, others make c 1, c is
    -- read, the sum is computed and stored in d
    ∷ (steps 6 twice ∷ [])
    ∷ steps_and_value (own 0 ∷ other 3 ∷ own 0 ∷ own 0 ∷ own 0 ∷ [])
    -- while c > 0 do c ← c − 1 over 4 states; a sequence of nil and nil
    ∷ (steps 4 (while (op 4 (var 0) (lit (int (pos 0)))) (assign 0 (op 1 (var 0) (lit (int (pos 1)))))) ∷ [])
    ∷ (steps 4 (seq nil nil) ∷ [])
    -- sizes 8, 8 and 13, 5, with the statement nil
    ∷ size_or_fault (read_handler (0x48 ∷ 0x40 ∷ []))
    ∷ size_or_fault (read_handler (0x4D ∷ 0x28 ∷ []))
    -- a while's test (c = 0) ∨ (c = 1) with c of size 2 and moved
    ∷ number_and_node (first_fault both_ways (iteration (under 1) 0 2 (skip (under 2))) (while either nil) 0)
    ∷ []

pub twelve : marked
    ≡ ascii "accepted 1\n" ∷ ascii "refused 43 node 0\n" ∷ ascii "refused 10 bit 0\n" ∷ ascii "refused 10 bit 8\n" ∷ ascii "refused 18 bit 23\n"
    ∷ (4 ∷ []) ∷ (4 ∷ 1 ∷ []) ∷ (28 ∷ []) ∷ (1 ∷ []) ∷ (64 ∷ []) ∷ (13 ∷ 8 ∷ []) ∷ (50 ∷ 0 ∷ []) ∷ []
unfolding bit_length bit_at bits_at is_there field_at field_or first_set fill_bits further_byte fill_from fill_at implies all any must given named or_else each holds within reach in_set same_set same_relation set_lies_in relation_lies_in is_true is_false after_store to_after moves c31 c32 c33 c34 c35 c36 c37 c38 unmoved c41 c42 c43 c50 c51 c52 c53 c54 c55 c56 c57 size_read add_size sizes_read count_read head_at signed integer_head truth_head variable_head operation_head payload_head tag_head expr_head expr_at whole_expr target_head code_head mark_head stmt_head stmt_at whole_stmt read_handler set_at row_at tables_there is_count relations_read sets_read tables_at in_set_of in_relation_of on_name named_table loop_head names_head rule_head node_head node_at whole_node read_proof too_long read_pair answer digits decimal place_text verdict_text line_of
twelve = refl
