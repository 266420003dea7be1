-- docs/FORMAT.md, "Order of faults": both files within their length, the handler file front to back, and then the proof file over its N.
use Rattle.std.specs.Prelude.{ℕ, ◌+◌, ◌^◌, min, cond, List, Result, Ok, Err}
use Rattle.bits.specs.Fields.{fault_at}
use Rattle.semantics.specs.Language.{Stmt}
use Rattle.semantics.specs.States.{product}
use Rattle.semantics.specs.StepNumber.{steps}
use Rattle.semantics.specs.Derivations.{Derivation, nodes, levels}
use Rattle.handler.specs.declared.HandlerSummary.{HandlerSummary}
use Rattle.handler.specs.Header.{head_of}
use Rattle.handler.specs.Kinds.{stmt_width}
use Rattle.handler.specs.Reading.{HandlerRead, handler, refused, read_handler}
use Rattle.handler.specs.Shapes.{terms_after}
use Rattle.handler.specs.StatementTable.{statements, stmt_levels, statement_table}
use Rattle.derivation.specs.declared.ProofHead.{ProofHead}
use Rattle.derivation.specs.NodeTable.{node_table}
use Rattle.derivation.specs.Reading as Proofs
use Rattle.pair.specs.declared.PairFault.{PairFault}
use Rattle.pair.specs.declared.PairFault.TheVariants.{TooLong, At}
use Rattle.pair.specs.declared.PairFile.{PairFile}
use Rattle.pair.specs.Limits.{too_long}

-- What two files hold: the sizes of the variables, the statement's first bit and the statement; over that N, the numbers of sets and
-- relations, the root's first bit and the derivation.
pub record Pair : Type 0 where
  pub sizes : List ℕ
  pub statement_bit : ℕ
  pub statement : Stmt
  pub sets : ℕ
  pub relations : ℕ
  pub root_bit : ℕ
  pub derivation : Derivation

-- N, and the step number of the statement over it.
abbrev pub states_of : Pair → ℕ
states_of x = product x.sizes

abbrev pub steps_of : Pair → ℕ
steps_of x = steps (states_of x) x.statement

-- Two files that are read; or the number and the bit of the first fault, 10 to 18 in the handler file and 20 to 25 in the proof file; or a
-- file is too long (2).
pub data PairRead : Type 0 where
  pair : Pair → PairRead
  faulty : ℕ → ℕ → PairRead
  long : PairRead

abbrev pub on_proof : List ℕ → ℕ → Stmt → Proofs.ProofRead → PairRead
on_proof sizes at S (Proofs.refused k place) = faulty k place
on_proof sizes at S (Proofs.proof sets relations root d) = pair (record {
  sizes = sizes;
  statement_bit = at;
  statement = S;
  sets = sets;
  relations = relations;
  root_bit = root;
  derivation = d;
})

abbrev pub on_handler : List ℕ → HandlerRead → PairRead
on_handler pb (refused k place) = faulty k place
on_handler pb (handler sizes at S) = on_proof sizes at S (Proofs.read_proof pb (product sizes))

unfoldable pub read_pair : List ℕ → List ℕ → PairRead
read_pair hb pb = cond (too_long hb pb) long (on_handler pb (read_handler hb))

-- What the code keeps of both files: a summary of each, the head, the table of the statements and that of the nodes.
abbrev pub handler_summary : Pair → HandlerSummary
handler_summary x = record {
  at = x.statement_bit;
  end = x.statement_bit + stmt_width x.statement;
  statements = statements x.statement;
  levels = stmt_levels x.statement;
  steps = min (steps_of x) (2 ^ 32);
}

abbrev pub proof_head : Pair → ProofHead
proof_head x = record {
  sets = x.sets;
  relations = x.relations;
  nodes = nodes x.derivation;
  levels = levels x.derivation;
  root = x.root_bit;
}

abbrev pub file_of : Pair → PairFile
file_of x = record {
  read = record { handler = handler_summary x; proof = proof_head x };
  head = head_of x.sizes;
  statements = statement_table x.statement_bit x.statement;
  nodes = node_table x.root_bit x.derivation;
}

unfoldable pub pair_file : PairRead → Result PairFile PairFault
pair_file long = Err TooLong
pair_file (faulty k place) = Err (At (fault_at k place))
pair_file (pair x) = Ok (file_of x)

-- What reading leaves in the buffer for the nodes of the expressions: it is untouched where a file is too long.
unfoldable pub terms_read : List ℕ → List ℕ → List ℕ → List ℕ
terms_read hb pb entry = cond (too_long hb pb) entry (terms_after (read_handler hb) entry)
