-- What a proof file that is read without fault shows besides its nodes and tables: that there is a state, where the root begins, and
-- how long the file is.
use Prim.Native.Nat.{ℕ, ◌+◌, ◌*◌, ◌^◌, ◌≤◌, ◌<◌}
use mathlib.Core.Bool.{Bool, true, false, cond, ◌&&◌, and-eq-true_iff}
use mathlib.Core.List.{List}
use mathlib.Core.Path.{◌≡◌, refl}
use native.Mathlib.Nat.{mul-le-mul}
use native.Mathlib.Omega.{arith}
use borrow.Author.Tests.{lt-ltb, ltb-false, leb-true}
use lib.Dec.{ltb}
use lib.ListN.{length}
use Rattle.bits.specs.Fields.{bit_length, fault_at, field_or, first_set, fill_bits, further_byte, fill_from, fill_at}
use Rattle.std.specs.Prelude.{Option, Some, None, Result, Ok, Err}
use Rattle.bits.specs.declared.FileFault.{FileFault}
use Rattle.bits.proofs.Places.{either}
use Rattle.writer.specs.Packing.{bytes_for, packed}
use Rattle.writer.proofs.Packed.{length_packed}
use Rattle.states.specs.Sets.{capacity}
use Rattle.semantics.specs.Derivations.{Derivation}
use Rattle.derivation.specs.declared.TablesHead.{TablesHead}
use Rattle.derivation.specs.Tables.{row_at, tables_there, is_count, tables_head, relations_read, sets_read, tables_at}
use Rattle.derivation.specs.Nodes.{whole_node}
use Rattle.derivation.specs.NodeTable.{node_bits}
use Rattle.derivation.specs.Reading.{proof, read_proof}
use Rattle.derivation.proofs.Counts.{row_small}
use Rattle.derivation.proofs.NodesRead.{read, bits_most}
use Rattle.derivation.proofs.Files.{counted, stages, read_known}
use Rattle.derivation.proofs.Places.{end_inside}
use Rattle.form.specs.Form.{file_parts}
use Rattle.form.proofs.FileBack.{root_at, width_file}

-- Where no further byte is found, the file ends at that bit or before.
no_further : (bytes : List ℕ) (next : ℕ) → further_byte bytes next ≡ Ok tt → next < 2 ^ 64 → 8 * length bytes ≤ next
unfolding further_byte
no_further bytes next e small = by (ltb next (8 * length bytes)) refl (rw (lt-ltb next (2 ^ 64) small) at e)
  where
    by : (b : Bool) → ltb next (8 * length bytes) ≡ b → cond {A = Result (Unit {0}) ℕ} (b && true) (Err next) (Ok tt) ≡ Ok tt → 8 * length bytes ≤ next
    by true t e = absurd (let z : ◌≡◌ {A = ℕ} 0 1 = cc in omega arith)
    by false t e = ltb-false next (8 * length bytes) t

-- A file whose last field ends at a bit within it, and which ends there as a file must, has no byte more than it needs.
pub ends_length : (bytes : List ℕ) (at : ℕ) → fill_at bytes at ≡ Ok tt → at ≤ 8 * length bytes → at + 8 < 2 ^ 64 → length bytes ≡ bytes_for at
unfolding fill_at fill_from fill_bits bytes_for
ends_length bytes at e inside small = by (first_set bytes at (fill_bits at)) e
  where
    by : (o : Option ℕ) → fill_from bytes (at + fill_bits at) o ≡ Ok tt → length bytes ≡ bytes_for at
    by None e = omega (arith, no_further bytes (at + fill_bits at) e (omega arith))
    by (Some i) e = absurd (let z : ◌≡◌ {A = ℕ} 0 1 = cc in omega arith)

-- Tables are read only where there is a state.
module _ (bytes : List ℕ) (n : ℕ) where
  abbrev SomeState : Result TablesHead FileFault → Type 0
  SomeState (Ok x) = 1 ≤ n
  SomeState (Err fault) = Unit {0}

  state_there : (sets relations : ℕ) (b : Bool) → tables_there bytes n sets relations ≡ b
      → SomeState (cond b (Ok (tables_head n sets relations)) (Err (fault_at 20 (bit_length bytes))))
  unfolding tables_there
  state_there sets relations true t = let tests = simp and-eq-true_iff at t in omega (arith, leb-true)
  state_there sets relations false t = tt

  some_state : SomeState (tables_at bytes n)
  unfolding tables_at sets_read relations_read
  some_state = first (field_or bytes 0 5 20)
    where
      second : (sets : ℕ) (f : Result (ℕ × ℕ) FileFault) → SomeState (relations_read bytes n sets f)
      second sets (Err fault) = tt
      second sets (Ok (relations, next)) =
          either SomeState (is_count relations) _ _ (state_there sets relations (tables_there bytes n sets relations) refl) tt

      first : (f : Result (ℕ × ℕ) FileFault) → SomeState (sets_read bytes n f)
      first (Err fault) = tt
      first (Ok (sets, next)) = either SomeState (is_count sets) _ _ (second sets (field_or bytes 5 5 20)) tt

  -- A proof file that is read without fault.
  module _ (sets relations root : ℕ) (d : Derivation) (e : read_proof bytes n ≡ proof sets relations root d) where
    pub states_least : 1 ≤ n
    states_least = rw (stages bytes n sets relations root d e).tables at some_state

    pub states_most : n ≤ capacity
    states_most = (counted bytes n _ (stages bytes n sets relations root d e).tables).states_most

    pub read_root : root ≡ row_at n sets relations 0
    read_root = (counted bytes n _ (stages bytes n sets relations root d e).tables).at_root

    -- How many bytes it has.
    pub read_length : length bytes ≡ bytes_for (10 + n * sets + n * n * relations + node_bits d)
    unfolding whole_node
    read_length =
        let s = stages bytes n sets relations root d e in
        let end = read bytes sets relations 25 0 root d s.count s.next s.nodes_read in
        let inside = end_inside bytes n _ d s in
        let end-at : s.next ≡ 10 + n * sets + n * n * relations + node_bits d =
        omega (arith, end.ended, read_root, root_at n sets relations)
        in
        let known = read_known bytes n sets relations root d e in
        let small = row_small n sets relations 0 states_most known.sets_most known.relations_most (omega arith) in
        rw end-at at (ends_length bytes s.next s.ends inside (omega (arith, end.ended, read_root, bits_most d, known.nodes_most)))

    -- A file with as many tables and node bits, or fewer, has no more bytes.
    pub no_longer : (S R : List ℕ) (d' : Derivation) → length S ≤ sets → length R ≤ relations → node_bits d' ≤ node_bits d
        → length (packed (file_parts n S R d')) ≤ length bytes
    unfolding bytes_for
    no_longer S R d' fewer-sets fewer-relations fewer-bits =
        let set-bits : n * length S ≤ n * sets = mul-le-mul (omega arith) fewer-sets in
        let relation-bits : n * n * length R ≤ n * n * relations = mul-le-mul (omega arith) fewer-relations in
        omega (arith, length_packed (file_parts n S R d'), width_file n S R d', read_length)
