-- Every fault of a proof file has a number from 20 to 25, and its place is in the file or at its end. Reading keeps its cursor within the
-- file, and names only its cursor, the file's length or a bit that is there.
use Prim.Native.Nat.{ℕ, zero, suc, ◌+◌, ◌*◌, ◌≤◌}
use mathlib.Core.Bool.{true, ◌&&◌, ◌||◌}
use mathlib.Core.List.{List}
use mathlib.Core.Path.{◌≡◌, refl}
use native.Mathlib.Omega.{arith}
use lib.Dec.{leb, ltb, eqb}
use lib.ListN.{length}
use Rattle.std.specs.Option.{ok_or}
use Rattle.std.specs.Prelude.{Result, Ok, Err}
use Rattle.bits.specs.Fields.{bit_length, fault_at, field_or, fill_at}
use Rattle.bits.specs.declared.FileFault.{FileFault}
use Rattle.bits.proofs.Laws.{There}
use Rattle.bits.proofs.Places.{FaultIn, either, by_field, fault_at as fault_inside_at, fault_missing, fill_inside}
use Rattle.semantics.specs.declared.Names.{Names}
use Rattle.semantics.specs.Derivations.{Derivation}
use Rattle.derivation.specs.declared.TablesHead.{TablesHead}
use Rattle.derivation.specs.Tables.{tables_there, is_count, relations_read, sets_read, tables_at}
use Rattle.derivation.specs.Nodes.{HeadRead, on_name, named_table, loop_head, names_head, rule_head, node_head, NodeRead, whole, fault, over_two, over_one, on_child, on_left_node, on_node_head, node_at, whole_node}
use Rattle.derivation.specs.Reading.{ProofRead, proof, refused, on_proof_fill, on_nodes, on_tables, read_proof}
use Rattle.derivation.proofs.Files.{counted, Stages}

module _ (bytes : List ℕ) where
  abbrev end : ℕ
  end = 8 * length bytes

  abbrev Fine : ℕ → ℕ → Type 0
  Fine = FaultIn bytes 20 25

  missing : Fine 20 (bit_length bytes)
  missing = fault_missing bytes 20 25 20 refl

  at_cursor : (k : ℕ) → (leb 20 k && leb k 25) ≡ true → (at : ℕ) → at ≤ end → Fine k at
  at_cursor = fault_inside_at bytes 20 25

  -- What holds of every field that is there, and of a missing one, holds of what is read.
  by_field_or : {A : Type 0} (P : A → Type 0) (at w : ℕ) (f : Result (ℕ × ℕ) FileFault → A) → P (f (Err (fault_at 20 (bit_length bytes))))
      → ((v next : ℕ) → There bytes at w v next → P (f (Ok (v, next)))) → P (f (field_or bytes at w 20))
  unfolding field_or
  by_field_or P at w f = by_field bytes P at w (λ x. f (ok_or x (fault_at 20 (bit_length bytes))))

  -- The head of a node.
  abbrev HeadIn : HeadRead → Type 0
  HeadIn (Ok x) = x.next ≤ end
  HeadIn (Err x) = Fine x.number x.bit

  -- A name that is there ends within the file, and so may what is read after it.
  name_in : (limit at : ℕ) (f : ℕ → HeadRead) → at ≤ end → ((i : ℕ) → at + 4 ≤ end → HeadIn (f i)) → HeadIn (named_table bytes limit at f)
  unfolding named_table on_name
  name_in limit at f here after =
      by_field_or HeadIn at 4 (λ x. on_name limit at x f) missing (λ i next t.
      either HeadIn (ltb i limit) _ _ (after i t.inside) (at_cursor 23 refl at here))

  module _ (sets relations : ℕ) where
    loop-in : (rule : ℕ) (h : Names) (at : ℕ) → at ≤ end → HeadIn (loop_head bytes sets relations rule h at)
    unfolding loop_head
    loop-in rule h at here =
        either HeadIn (eqb rule 5) _ _ (name_in sets at _ here (λ K a. name_in relations (at + 4) _ a (λ W b. omega arith))) here

    names_in : (rule at : ℕ) → at ≤ end → HeadIn (names_head bytes sets relations rule at)
    unfolding names_head
    names_in rule at here =
        name_in sets at _ here (λ P a. name_in relations (at + 4) _ a (λ R b. name_in relations (at + 8) _ (omega arith) (λ G c.
        name_in relations (at + 12) _ (omega arith) (λ Q d. loop-in rule _ (at + 16) (omega arith)))))

    head_in : (below before at : ℕ) → at ≤ end → HeadIn (node_head bytes sets relations below before at)
    unfolding node_head rule_head
    head_in below before at here =
        by_field_or HeadIn at 3 (rule_head bytes sets relations (eqb below 0 || leb 127 before) at) missing (λ rule next t.
        either HeadIn (eqb below 0 || leb 127 before) _ _ (at_cursor 24 refl at here)
        (either HeadIn (eqb rule 7) _ _ (at_cursor 22 refl at here) (names_in rule next (omega arith))))

  -- The nodes.
  abbrev NodeIn : NodeRead → Type 0
  NodeIn (whole d before next) = next ≤ end
  NodeIn (fault k place) = Fine k place

  child_in : (f : Derivation → Derivation) (x : NodeRead) → NodeIn x → NodeIn (on_child f x)
  child_in f (whole d before next) p = p
  child_in f (fault k place) p = p

  module _ (node : ℕ → ℕ → NodeRead) (later : (n i : ℕ) → i ≤ end → NodeIn (node n i)) where
    left_in : (f : Derivation → Derivation → Derivation) (x : NodeRead) → NodeIn x → NodeIn (on_left_node f x node)
    left_in f (whole l before next) p = child_in (f l) (node before next) (later before next p)
    left_in f (fault k place) p = p

    on_head_lem : (h : HeadRead) → HeadIn h → (before : ℕ) → NodeIn (on_node_head h before node)
    on_head_lem (Err x) p before = p
    on_head_lem (Ok x) p before =
        either NodeIn (ltb x.rule 2) _ _ p
        (either NodeIn (ltb x.rule 4) _ _ (left_in (over_two x) (node (suc before) x.next) (later (suc before) x.next p))
        (child_in (over_one x) (node (suc before) x.next) (later (suc before) x.next p)))

  node_in : (sets relations levels before at : ℕ) → at ≤ end → NodeIn (node_at levels bytes sets relations before at)
  unfolding node_at
  node_in sets relations zero before at here = at_cursor 24 refl at here
  node_in sets relations (suc levels) before at here =
      on_head_lem (node_at levels bytes sets relations) (node_in sets relations levels) (node_head bytes sets relations levels before at)
      (head_in sets relations levels before at here) before

  module _ (n : ℕ) where
    -- The two counts. Where the root begins is known from `counted`.
    abbrev TablesIn : Result TablesHead FileFault → Type 0
    TablesIn (Ok x) = Unit {0}
    TablesIn (Err x) = Fine x.number x.bit

    relations_in_lem : (sets : ℕ) → TablesIn (relations_read bytes n sets (field_or bytes 5 5 20))
    unfolding relations_read
    relations_in_lem sets =
        by_field_or TablesIn 5 5 (relations_read bytes n sets) missing (λ relations next t.
        either TablesIn (is_count relations) _ _ (either TablesIn (tables_there bytes n sets relations) _ _ tt missing)
        (at_cursor 21 refl 5 (omega (arith, t.inside))))

    tables_in_lem : TablesIn (tables_at bytes n)
    unfolding tables_at sets_read
    tables_in_lem =
        by_field_or TablesIn 0 5 (sets_read bytes n) missing (λ sets next t.
        either TablesIn (is_count sets) _ _ (relations_in_lem sets) (at_cursor 21 refl 0 (omega arith)))

    -- The whole file.
    abbrev FileIn : ProofRead → Type 0
    FileIn (proof sets relations at d) = Unit {0}
    FileIn (refused k place) = Fine k place

    fill_in : (sets relations at next : ℕ) (d : Derivation) (f : Result (Unit {0}) ℕ) → fill_at bytes next ≡ f → FileIn (on_proof_fill sets relations at d f)
    fill_in sets relations at next d (Ok _) e = tt
    fill_in sets relations at next d (Err place) e = at_cursor 25 refl place (fill_inside bytes next place e)

    nodes_in : (sets relations at : ℕ) (x : NodeRead) → NodeIn x → FileIn (on_nodes bytes sets relations at x)
    nodes_in sets relations at (fault k place) p = p
    nodes_in sets relations at (whole d before next) p = fill_in sets relations at next d (fill_at bytes next) refl

    on_tables_lem : (t : Result TablesHead FileFault) → tables_at bytes n ≡ t → TablesIn t → FileIn (on_tables bytes t)
    unfolding whole_node
    on_tables_lem (Err x) e p = p
    on_tables_lem (Ok x) e p =
        nodes_in x.sets x.relations x.root (whole_node bytes x.sets x.relations x.root)
        (node_in x.sets x.relations 25 0 x.root (counted bytes n x e).inside)

    file_in_lem : FileIn (read_proof bytes n)
    unfolding read_proof
    file_in_lem = on_tables_lem (tables_at bytes n) refl tables_in_lem

    -- The derivation of a file without fault ends within the file.
    pub end_inside : (x : TablesHead) (d : Derivation) (s : Stages bytes n x d) → s.next ≤ 8 * length bytes
    unfolding whole_node
    end_inside x d s =
        rw s.nodes_read at (node_in x.sets x.relations 25 0 x.root (counted bytes n x s.tables).inside)

    pub fault_inside : (k place : ℕ) → read_proof bytes n ≡ refused k place → FaultIn bytes 20 25 k place
    fault_inside k place e = rw e at file_in_lem
