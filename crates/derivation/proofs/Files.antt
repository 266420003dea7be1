-- What a proof file that is read without fault shows: its counts, its root and its end.
use Prim.Native.Nat.{ℕ, ◌*◌, ◌≤◌}
use mathlib.Core.Bool.{Bool, true, false, cond, and-eq-true_iff}
use mathlib.Core.List.{List}
use mathlib.Core.Path.{◌≡◌, refl, sym, ◌∙◌, ap}
use native.Mathlib.Omega.{arith}
use borrow.Author.Tests.{leb-true}
use lib.ListN.{length, replicate}
use lib.Seq.{sets as stored}
use Rattle.std.specs.Prelude.{Result, Ok, Err}
use Rattle.std.specs.Result.{MatchResult}
use Rattle.bits.specs.Fields.{bit_length, fault_at, field_or, fill_at}
use Rattle.bits.specs.declared.FileFault.{FileFault}
use Rattle.states.specs.Sets.{capacity}
use Rattle.semantics.specs.Derivations.{Derivation, nodes, levels}
use Rattle.derivation.specs.declared.TablesHead.{TablesHead}
use Rattle.derivation.specs.declared.ProofFile.{ProofFile}
use Rattle.derivation.specs.declared.NodeEnd.{NodeEnd}
use Rattle.derivation.specs.Tables.{most_tables, row_at, tables_there, is_count, tables_head, relations_read, sets_read, tables_at}
use Rattle.derivation.specs.Nodes.{NodeRead, whole, fault, whole_node, end_of}
use Rattle.derivation.specs.Reading.{ProofRead, proof, refused, on_proof_fill, on_nodes, on_tables, read_proof, proof_file, loaded_word}
use Rattle.derivation.specs.NodeTable.{node_words, node_table}
use Rattle.derivation.proofs.Counts.{count_range}
use Rattle.derivation.proofs.NodeTable.{Known, length_node_words}
use Rattle.derivation.proofs.NodesRead.{ended_whole, ended_faulty, read}
use Rattle.derivation.proofs.Filling.{stored_padded}

-- Its counts, and that its tables are there in full.
pub record Counted (bytes : List ℕ) (n : ℕ) (x : TablesHead) : Type 0 where
  pub states_most : n ≤ capacity
  pub sets_most : x.sets ≤ most_tables
  pub relations_most : x.relations ≤ most_tables
  pub at_root : x.root ≡ row_at n x.sets x.relations 0
  pub inside : x.root ≤ 8 * length bytes

abbrev CountedIn : List ℕ → ℕ → Result TablesHead FileFault → Type 0
CountedIn bytes n (Err x) = Unit {0}
CountedIn bytes n (Ok x) = Counted bytes n x

module _ (bytes : List ℕ) (n : ℕ) where
  relations_counted : (sets : ℕ) → is_count sets ≡ true → (f : Result (ℕ × ℕ) FileFault) → CountedIn bytes n (relations_read bytes n sets f)
  unfolding relations_read tables_there
  relations_counted sets es (Err x) = tt
  relations_counted sets es (Ok (relations, next)) = count (is_count relations) refl
    where
      within : (b : Bool) → tables_there bytes n sets relations ≡ b → is_count relations ≡ true
          → CountedIn bytes n (cond b (Ok (tables_head n sets relations)) (Err (fault_at 20 (bit_length bytes))))
      within true t er =
          let tests = simp and-eq-true_iff at t in
          record {
            states_most = omega (arith, leb-true);
            sets_most = (count_range sets es).1;
            relations_most = (count_range relations er).1;
            at_root = refl;
            inside = omega (arith, leb-true);
          }
      within false t er = tt

      count : (b : Bool) → is_count relations ≡ b → CountedIn bytes n (cond b
          (cond (tables_there bytes n sets relations) (Ok (tables_head n sets relations)) (Err (fault_at 20 (bit_length bytes)))) (Err (fault_at 21 5)))
      count true er = within (tables_there bytes n sets relations) refl er
      count false er = tt

  tables_counted : CountedIn bytes n (tables_at bytes n)
  unfolding tables_at sets_read
  tables_counted = by (field_or bytes 0 5 20)
    where
      count : (sets : ℕ) (b : Bool) → is_count sets ≡ b → CountedIn bytes n (cond b (relations_read bytes n sets (field_or bytes 5 5 20)) (Err (fault_at 21 0)))
      count sets true e = relations_counted sets e (field_or bytes 5 5 20)
      count sets false e = tt

      by : (f : Result (ℕ × ℕ) FileFault) → CountedIn bytes n (sets_read bytes n f)
      by (Err x) = tt
      by (Ok (sets, next)) = count sets (is_count sets) refl

  pub counted : (x : TablesHead) → tables_at bytes n ≡ Ok x → Counted bytes n x
  counted x e = rw e at tables_counted

  -- The stages of a file that is read without fault, front to back.
  pub record Stages (x : TablesHead) (d : Derivation) : Type 0 where
    pub tables : tables_at bytes n ≡ Ok x
    pub count : ℕ
    pub next : ℕ
    pub nodes_read : whole_node bytes x.sets x.relations x.root ≡ whole d count next
    pub ends : fill_at bytes next ≡ Ok tt

  abbrev StagesIn : ProofRead → Type 0
  StagesIn (proof sets relations at d) = Stages (record { sets = sets; relations = relations; root = at }) d
  StagesIn (refused k place) = Unit {0}

  file_stages : StagesIn (read_proof bytes n)
  unfolding read_proof
  file_stages = head (tables_at bytes n) refl
    where
      fill : (x : TablesHead) (count next : ℕ) (d : Derivation) → tables_at bytes n ≡ Ok x
          → whole_node bytes x.sets x.relations x.root ≡ whole d count next → (f : Result (Unit {0}) ℕ) → fill_at bytes next ≡ f
          → StagesIn (on_proof_fill x.sets x.relations x.root d f)
      fill x count next d t w (Ok tt) f = record { tables = t; count = count; next = next; nodes_read = w; ends = f }
      fill x count next d t w (Err place) f = tt

      root : (x : TablesHead) → tables_at bytes n ≡ Ok x → (r : NodeRead) → whole_node bytes x.sets x.relations x.root ≡ r
          → StagesIn (on_nodes bytes x.sets x.relations x.root r)
      root x t (fault k place) w = tt
      root x t (whole d count next) w = fill x count next d t w (fill_at bytes next) refl

      head : (t : Result TablesHead FileFault) → tables_at bytes n ≡ t → StagesIn (on_tables bytes t)
      head (Err x) t = tt
      head (Ok x) t = root x t (whole_node bytes x.sets x.relations x.root) refl

  pub stages : (sets relations at : ℕ) (d : Derivation) → read_proof bytes n ≡ proof sets relations at d
      → Stages (record { sets = sets; relations = relations; root = at }) d
  stages sets relations at d e = rw e at file_stages

  -- What is known of such a file: its counts and levels, and that its nodes name tables that there are.
  pub record Shown (sets relations : ℕ) (d : Derivation) : Type 0 where
    pub sets_most : sets ≤ most_tables
    pub relations_most : relations ≤ most_tables
    pub nodes_most : nodes d ≤ 127
    pub levels_most : levels d ≤ 24
    pub known : Known sets relations d

  pub read_known : (sets relations at : ℕ) (d : Derivation) → read_proof bytes n ≡ proof sets relations at d → Shown sets relations d
  unfolding whole_node
  read_known sets relations at d e =
      let s = stages sets relations at d e in
      let r = read bytes sets relations 25 0 at d s.count s.next s.nodes_read in
      let c = counted _ s.tables in
      record {
        sets_most = c.sets_most;
        relations_most = c.relations_most;
        nodes_most = omega (arith, r.counted, r.room);
        levels_most = omega (arith, r.height);
        known = r.known;
      }

  -- The fill, with its wrong bit as a fault.
  abbrev pub FillRead : Result (Unit {0}) ℕ → Result (Unit {0}) FileFault → Type 0
  FillRead r m = MatchResult r (λ x. m ≡ Ok x) (λ place. m ≡ Err (fault_at 25 place))

  fill_ends : (r : Result (Unit {0}) ℕ) (m : Result (Unit {0}) FileFault) → FillRead r m → (x : Unit {0}) → m ≡ Ok x → r ≡ Ok tt
  fill_ends (Ok y) m e x is = refl
  fill_ends (Err place) m e x is = cc

  fill_misplaced : (r : Result (Unit {0}) ℕ) (m : Result (Unit {0}) FileFault) → FillRead r m → (y : FileFault) → m ≡ Err y
      → (place : ℕ) × (r ≡ Err place) × (y ≡ fault_at 25 place)
  fill_misplaced (Ok x) m e y is = cc
  fill_misplaced (Err place) m e y is = let same : y ≡ fault_at 25 place = cc in (place, refl, same)

  -- What the code answers of the file, by the stage that it came to.
  refused_at : (y : FileFault) → read_proof bytes n ≡ refused y.number y.bit → Err y ≡ proof_file (read_proof bytes n)
  refused_at y e = sym (ap proof_file e)

  pub no_tables : (y : FileFault) → tables_at bytes n ≡ Err y → Err y ≡ proof_file (read_proof bytes n)
  unfolding read_proof
  no_tables y e = refused_at y (rw e)

  module _ (x : TablesHead) (tables : tables_at bytes n ≡ Ok x) where
    abbrev root_read : NodeRead
    root_read = whole_node bytes x.sets x.relations x.root

    pub no_nodes : (y : FileFault) → end_of root_read ≡ Err y → Err y ≡ proof_file (read_proof bytes n)
    unfolding read_proof
    no_nodes y e = refused_at y (rw (tables, ended_faulty _ y e))

    module _ (end : NodeEnd) (ends : end_of root_read ≡ Ok end) where
      d_read : (d : Derivation) × (root_read ≡ whole d end.nodes end.next) × (levels d ≡ end.levels)
      d_read = ended_whole root_read end ends

      refused_fill : (place : ℕ) → fill_at bytes end.next ≡ Err place → Err (fault_at 25 place) ≡ proof_file (read_proof bytes n)
      unfolding read_proof
      refused_fill place e = refused_at (fault_at 25 place) (rw (tables, d_read.1, e))

      pub wrong_fill : (m : Result (Unit {0}) FileFault) → FillRead (fill_at bytes end.next) m → (y : FileFault) → m ≡ Err y
          → Err y ≡ proof_file (read_proof bytes n)
      wrong_fill m filled y e =
          let wrong = fill_misplaced (fill_at bytes end.next) m filled y e in
          ap Err wrong.2 ∙ refused_fill wrong.0 wrong.1

      -- The words of its nodes were stored in a table of 0.
      pub whole_file : (m : Result (Unit {0}) FileFault) → FillRead (fill_at bytes end.next) m → (u : Unit {0}) → m ≡ Ok u → (table : List ℕ)
          → ((d : Derivation) (after next : ℕ) → root_read ≡ whole d after next → table ≡ stored (replicate 127 0) 0 (node_words 0 x.root d))
          → Ok (record {
            head = record { sets = x.sets; relations = x.relations; nodes = end.nodes; levels = end.levels; root = x.root };
            nodes = table;
          }) ≡ proof_file (read_proof bytes n)
      unfolding read_proof whole_node node_table
      whole_file m fill u e table filled =
          let d = d_read.0 in
          let is : read_proof bytes n ≡ proof x.sets x.relations x.root d = rw (tables, d_read.1, fill_ends (fill_at bytes end.next) m fill u e) in
          let shows = read bytes x.sets x.relations 25 0 x.root d end.nodes end.next d_read.1 in
          let counts : end.nodes ≡ nodes d = omega (arith, shows.counted) in
          let few : length (node_words 0 x.root d) ≤ 127 = rw (length_node_words 0 x.root d) (read_known _ _ _ d is).nodes_most in
          let words = filled d end.nodes end.next d_read.1 ∙ stored_padded 127 (node_words 0 x.root d) few in
          (λ i. Ok (record {
            head = record { sets = x.sets; relations = x.relations; nodes = counts i; levels = sym d_read.2 i; root = x.root };
            nodes = words i;
          })) ∙ sym (ap proof_file is)

-- What a file whose answer has these counts was read as, and how many nodes and levels it has.
pub answered : (r : ProofRead) (x : ProofFile) → Ok x ≡ proof_file r
    → (d : Derivation) × (r ≡ proof x.head.sets x.head.relations x.head.root d) × (x.head.nodes ≡ nodes d) × (x.head.levels ≡ levels d)
answered (proof sets relations at d) x e =
    let same : record {
      head = record { sets = sets; relations = relations; nodes = nodes d; levels = levels d; root = at };
      nodes = node_table at d;
    } ≡ x = cc in
    (d, λ i. proof (same i).head.sets (same i).head.relations (same i).head.root d, sym (ap (λ f. f.head.nodes) same), sym (ap (λ f. f.head.levels) same))
answered (refused k place) x e = cc

pub no_words : (bytes : List ℕ) (n : ℕ) (r : ProofRead) (y : FileFault) → Err y ≡ proof_file r → (j : ℕ) → loaded_word bytes n r j ≡ 0
no_words bytes n (proof sets relations at d) y e j = cc
no_words bytes n (refused k place) y e j = refl
