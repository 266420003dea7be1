-- docs/COMPOSITION.md, "What is turned away": 1, 2 of the first pair, 2 of the second, the first pair's own number, the second's, then 90
-- to 95; and what is left in the buffers.
use Rattle.std.specs.Prelude.{ℕ, ◌+◌, Bool, false, cond, ◌&&◌, ◌||◌, List, [], ◌++◌, leb, ltb, eqb, length, drop, get_or, Ok, Err}
use Rattle.writer.specs.Packing.{packed}
use Rattle.states.specs.Search.{all, must, holds}
use Rattle.semantics.specs.Language.{Stmt, nil, par}
use Rattle.semantics.specs.States.{product}
use Rattle.semantics.specs.StepNumber.{most_steps}
use Rattle.semantics.specs.Derivations.{Derivation, skip, nodes, levels, Spec}
use Rattle.semantics.specs.Conditions.{in_set, relation_lies_in}
use Rattle.handler.specs.Kinds.{stmt_width}
use Rattle.handler.specs.Statements.{most_statements, most_statement_levels}
use Rattle.handler.specs.StatementTable.{statements, stmt_levels}
use Rattle.derivation.specs.Nodes.{most_nodes, most_node_levels}
use Rattle.derivation.specs.Tables.{most_tables, work_words, written}
use Rattle.pair.specs.Limits.{most_handler_bytes, most_proof_bytes, too_long}
use Rattle.pair.specs.Reading.{states_of, PairRead, pair, faulty, long, read_pair}
use Rattle.pair.specs.Modes as Modes
use Rattle.pair.specs.Modes.{rows}
use Rattle.checker.specs.declared.Fault.{Fault}
use Rattle.checker.specs.Verdicts.{Verdict, at_bit, answer}
use Rattle.form.specs.Members.{by_members}
use Rattle.form.specs.Form.{sets_in, relations_in, form_of}
use Rattle.joint.specs.Joining.{root_spec, joined, handler_parts}

-- What is taken from a pair of files: the sizes of its variables, the statement's first bit and the statement; over that N, the root's
-- tables, and the derivation with each table by its members.
pub record Side : Type 0 where
  pub sizes : List ℕ
  pub at : ℕ
  pub statement : Stmt
  pub tables : Spec
  pub derivation : Derivation

-- The empty side, for files that are not read.
abbrev pub no_side : Side
no_side = record {
  sizes = [];
  at = 0;
  statement = nil;
  tables = record { P = λ s. false; R = λ s t. false; G = λ s t. false; Q = λ s t. false };
  derivation = skip (record { p = 0; r = 0; g = 0; q = 0 });
}

abbrev pub side_in : List ℕ → PairRead → Side
side_in pb long = no_side
side_in pb (faulty k place) = no_side
side_in pb (pair x) = record {
  sizes = x.sizes;
  at = x.statement_bit;
  statement = x.statement;
  tables = Modes.root_spec pb rows x;
  derivation = by_members pb (states_of x) x.sets x.derivation;
}

unfoldable pub side_of : List ℕ → List ℕ → Side
side_of hb pb = side_in pb (read_pair hb pb)

-- The result: the step number, the handler file and the proof file; or the pair whose fault it is, 1 or 2, or 0 for neither, and the fault.
pub data Composition : Type 0 where
  made : ℕ → List ℕ → List ℕ → Composition
  refused : ℕ → Fault → Composition

-- A fault with no place of its own is at bit 0.
abbrev pub plain : ℕ → Fault
plain k = at_bit k 0

-- What is asked of both pairs together: k, unless it holds.
abbrev pub asked : ℕ → Bool → Composition → Composition
asked k held next = cond held next (refused 0 (plain k))

-- 90: the sizes are the same, in their number and one by one.
unfoldable pub same_sizes : List ℕ → List ℕ → Bool
same_sizes a b = eqb (length a) (length b) && all (length a) (λ v. eqb (get_or a v 0) (get_or b v 0))

-- 93, for one of both G: s in P, (s,t) in G: t in P.
unfoldable pub stays_in : ℕ → (ℕ → Bool) → (ℕ → ℕ → Bool) → Bool
stays_in n P G = holds (in_set n P (λ s. in_set n (G s) (λ t. must (P t))))

-- Over two handler files and what is taken from both pairs.
module _ (h h' : List ℕ) (a b : Side) where
  -- N, the states from which both may start, and the result: the parallel, its derivation and both files.
  abbrev pub N : ℕ
  N = product a.sizes

  abbrev pub met_p : ℕ → Bool
  met_p = (root_spec N a.tables b.tables).P

  abbrev pub statement : Stmt
  statement = par a.statement b.statement

  abbrev pub derivation : Derivation
  derivation = joined N a.tables b.tables a.derivation b.derivation

  abbrev pub handler_file : List ℕ
  handler_file = packed (handler_parts h a.at (stmt_width a.statement) h' b.at (stmt_width b.statement))

  abbrev pub proof_file : List ℕ
  proof_file = form_of N derivation

  -- 91: the second G lies within the first R.
  abbrev pub second_allowed : Bool
  second_allowed = relation_lies_in N b.tables.G a.tables.R

  -- 92: the first G lies within the second R.
  abbrev pub first_allowed : Bool
  first_allowed = relation_lies_in N a.tables.G b.tables.R

  -- 93: no pair of either G leads out of the met P.
  abbrev pub met_p_kept : Bool
  met_p_kept = stays_in N met_p a.tables.G && stays_in N met_p b.tables.G

  -- 94: the result, with this step number, is within every limit.
  unfoldable pub in_limits : ℕ → Bool
  in_limits steps =
      leb (statements statement) most_statements && leb (stmt_levels statement) most_statement_levels
      && leb (nodes derivation) most_nodes && leb (levels derivation) most_node_levels
      && leb (length (sets_in derivation)) most_tables && leb (length (relations_in derivation)) most_tables
      && leb (length handler_file) most_handler_bytes && leb (length proof_file) most_proof_bytes
      && leb steps most_steps

  abbrev pub limited : ℕ → Composition
  limited steps = asked 94 (in_limits steps) (made steps handler_file proof_file)

  -- 90 to 94, in this order, for this step number.
  unfoldable pub composition : ℕ → Composition
  composition steps =
      asked 90 (same_sizes a.sizes b.sizes)
      (asked 91 second_allowed (asked 92 first_allowed (asked 93 met_p_kept (limited steps))))

-- A pair's own refusal, or what follows the step number with which it is accepted.
abbrev pub of_pair : ℕ → Verdict → (ℕ → Composition) → Composition
of_pair which (Err f) next = refused which f
of_pair which (Ok k) next = next k

-- Two pairs of files, h with p and h' with p'.
module _ (h p h' p' : List ℕ) where
  -- The composition, with so many work words. Its step number is both step numbers plus 1.
  unfoldable pub compose : ℕ → Composition
  compose words =
      cond (ltb words work_words) (refused 0 (plain 1))
      (cond (too_long h p) (refused 1 (plain 2))
      (cond (too_long h' p') (refused 2 (plain 2))
      (of_pair 1 (answer h p rows words).verdict (λ k.
      of_pair 2 (answer h' p' rows words).verdict (λ k'. composition h h' (side_of h p) (side_of h' p') (k + k' + 1))))))

  -- The work words at exit: 1 and 2 write nothing, and otherwise the table words end as 0.
  unfoldable pub work_after : List ℕ → List ℕ
  work_after work =
      cond (ltb (length work) work_words || too_long h p || too_long h' p') work (written (λ j. 0) work)

-- 95: either output buffer is too short.
unfoldable pub with_room : Composition → ℕ → ℕ → Composition
with_room (refused which f) room room' = refused which f
with_room (made k handler proof) room room' = asked 95 (leb (length handler) room && leb (length proof) room') (made k handler proof)

-- The outcome over the buffers that are lent: the work words and both output buffers.
abbrev pub compose_into : List ℕ → List ℕ → List ℕ → List ℕ → List ℕ → List ℕ → List ℕ → Composition
compose_into h p h' p' work hout pout = with_room (compose h p h' p' (length work)) (length hout) (length pout)

-- A file at the front of a buffer, whose bytes past it stay.
abbrev pub at_front : List ℕ → List ℕ → List ℕ
at_front file out = file ++ drop (length file) out

-- Both output buffers at exit: a refusal leaves them untouched.
abbrev pub handler_after : Composition → List ℕ → List ℕ
handler_after (refused which f) out = out
handler_after (made k handler proof) out = at_front handler out

abbrev pub proof_after : Composition → List ℕ → List ℕ
proof_after (refused which f) out = out
proof_after (made k handler proof) out = at_front proof out
