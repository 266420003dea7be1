-- docs/FORMAT.md, "Order of faults": the proof file front to back.
use Rattle.std.specs.Prelude.{ℕ, List, Result, Ok, Err}
use Rattle.bits.specs.Fields.{fault_at, fill_at}
use Rattle.bits.specs.declared.FileFault.{FileFault}
use Rattle.semantics.specs.Derivations.{Derivation, nodes, levels}
use Rattle.derivation.specs.declared.TablesHead.{TablesHead}
use Rattle.derivation.specs.declared.ProofFile.{ProofFile}
use Rattle.derivation.specs.Tables.{tables_at, table_word}
use Rattle.derivation.specs.Nodes.{NodeRead, whole, fault, whole_node}
use Rattle.derivation.specs.NodeTable.{node_table}

-- A proof file: how many sets and relations, the root's first bit and the derivation; or its first fault.
pub data ProofRead : Type 0 where
  proof : ℕ → ℕ → ℕ → Derivation → ProofRead
  refused : ℕ → ℕ → ProofRead

-- 25: a fill bit that is not zero, or a further byte.
abbrev pub on_proof_fill : ℕ → ℕ → ℕ → Derivation → Result (Unit {0}) ℕ → ProofRead
on_proof_fill sets relations at d (Ok _) = proof sets relations at d
on_proof_fill sets relations at d (Err place) = refused 25 place

abbrev pub on_nodes : List ℕ → ℕ → ℕ → ℕ → NodeRead → ProofRead
on_nodes bytes sets relations at (fault k place) = refused k place
on_nodes bytes sets relations at (whole d before next) = on_proof_fill sets relations at d (fill_at bytes next)

abbrev pub on_tables : List ℕ → Result TablesHead FileFault → ProofRead
on_tables bytes (Err x) = refused x.number x.bit
on_tables bytes (Ok x) = on_nodes bytes x.sets x.relations x.root (whole_node bytes x.sets x.relations x.root)

-- The proof file over n states.
unfoldable pub read_proof : List ℕ → ℕ → ProofRead
read_proof bytes n = on_tables bytes (tables_at bytes n)

-- What the code answers of a proof file: what it holds with the table of its nodes, or its first fault.
abbrev pub proof_file : ProofRead → Result ProofFile FileFault
proof_file (proof sets relations at d) =
    Ok (record {
      head = record { sets = sets; relations = relations; nodes = nodes d; levels = levels d; root = at };
      nodes = node_table at d;
    })
proof_file (refused k place) = Err (fault_at k place)

-- The table words that a proof file leaves: its tables, or 0 after a fault.
abbrev pub loaded_word : List ℕ → ℕ → ProofRead → ℕ → ℕ
loaded_word bytes n (proof sets relations at d) j = table_word bytes n sets relations j
loaded_word bytes n (refused k place) j = 0
