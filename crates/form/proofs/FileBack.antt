-- The proof file of given tables and a derivation is read back as what was written.
use Prim.Native.Nat.{ℕ, zero, suc, ◌+◌, ◌*◌, ◌^◌, ◌≤◌, ◌<◌}
use mathlib.Core.Bool.{true, or-true}
use mathlib.Core.List.{List, [], ◌∷◌, ◌++◌, map}
use mathlib.Core.Path.{◌≡◌, refl, sym}
use native.Mathlib.Nat.{mul-zero, mul-suc}
use native.Mathlib.Omega.{arith}
use borrow.Author.Tests.{le-leb, eq-eqb}
use lib.ListN.{length, get_or}
use Rattle.bits.specs.Fields.{bits_at, field_or, fill_at}
use Rattle.std.specs.Prelude.{Result, Ok, Err}
use Rattle.bits.proofs.Laws.{found}
use Rattle.writer.specs.Packing.{part, width_of, bytes_for, packed}
use Rattle.writer.proofs.Holding.{Holds, Fitting}
use Rattle.writer.proofs.Packed.{width_append, fitting_append, holds_append, length_packed, packed_holds, packed_ends}
use Rattle.states.specs.Sets.{capacity}
use Rattle.semantics.specs.Derivations.{Derivation, nodes, levels}
use Rattle.derivation.specs.Tables.{most_tables, set_at, row_at, tables_there, is_count, tables_head, relations_read, sets_read, tables_at}
use Rattle.derivation.specs.Nodes.{whole_node}
use Rattle.derivation.specs.NodeTable.{node_bits}
use Rattle.derivation.specs.Reading.{proof, read_proof}
use Rattle.derivation.proofs.Counts.{row_small}
use Rattle.derivation.proofs.NodeTable.{Known}
use Rattle.derivation.proofs.NodesRead.{bits_most}
use Rattle.form.specs.Members.{set_members, relation_members}
use Rattle.form.specs.Mentions.{in_order, is_in}
use Rattle.form.specs.Form.{parts_of, file_parts}
use Rattle.form.proofs.NodesBack.{width_nodes, nodes_fit, nodes_back}

-- Where the tables end and the root begins.
pub root_at : (n sets relations : ℕ) → row_at n sets relations 0 ≡ 10 + n * sets + n * n * relations
unfolding row_at
root_at n sets relations = omega arith

-- A table of values, each a field of the same width.
pub width_map : (w : ℕ) (xs : List ℕ) → width_of (map (part w) xs) ≡ w * length xs
unfolding width_of
width_map w [] = sym (mul-zero w)
width_map w (x ∷ xs) = omega (arith, width_map w xs, mul-suc w (length xs))

pub holds_map : (s : List ℕ) (at w : ℕ) (xs : List ℕ) → Holds s at (map (part w) xs) → (i : ℕ) → i < length xs
    → bits_at s (at + w * i) w ≡ get_or xs i 0
unfolding Holds
holds_map s at w [] h i under = absurd (omega arith)
holds_map s at w (x ∷ xs) h zero under = let e : at + w * 0 ≡ at = omega arith in rw e h.0
holds_map s at w (x ∷ xs) h (suc i) under =
    let e : at + w * suc i ≡ at + w + w * i = omega (arith, mul-suc w i) in
    rw e (holds_map s (at + w) w xs h.1 i (omega arith))

-- The values of a table have room if each of them has, by its place or as a member.
pub fitting_map : (w : ℕ) (xs : List ℕ) → ((i : ℕ) → i < length xs → get_or xs i 0 < 2 ^ w) → Fitting (map (part w) xs)
unfolding Fitting
fitting_map w [] small = tt
fitting_map w (x ∷ xs) small = (small 0 (omega arith), fitting_map w xs (λ i under. small (suc i) (omega arith)))

pub fitting_in : (w : ℕ) (xs : List ℕ) → ((x : ℕ) → is_in xs x ≡ true → x < 2 ^ w) → Fitting (map (part w) xs)
unfolding Fitting is_in
fitting_in w [] small = tt
fitting_in w (x ∷ xs) small = (small x (rw (eq-eqb x x refl)), fitting_in w xs (λ y e. small y (rw (e, or-true))))

-- How many bits a proof file takes.
pub width_file : (n : ℕ) (S R : List ℕ) (d : Derivation)
    → width_of (file_parts n S R d) ≡ 10 + n * length S + n * n * length R + node_bits d
unfolding file_parts width_of
width_file n S R d =
    omega (
      arith,
      width_append (map (part n) S) (map (part (n * n)) R ++ in_order parts_of d),
      width_append (map (part (n * n)) R) (in_order parts_of d),
      width_map n S,
      width_map (n * n) R,
      width_nodes d,
    )

pub width_root : (n : ℕ) (S R : List ℕ) (d : Derivation)
    → width_of (file_parts n S R d) ≡ row_at n (length S) (length R) 0 + node_bits d
width_root n S R d = omega (arith, width_file n S R d, root_at n (length S) (length R))

-- Tables and a derivation that a proof file over n states can hold.
pub record Encodable (n : ℕ) (S R : List ℕ) (d : Derivation) : Type 0 where
  pub states_least : 1 ≤ n
  pub states_most : n ≤ capacity
  pub sets_least : 1 ≤ length S
  pub sets_most : length S ≤ most_tables
  pub relations_least : 1 ≤ length R
  pub relations_most : length R ≤ most_tables
  pub sets_fit : Fitting (map (part n) S)
  pub relations_fit : Fitting (map (part (n * n)) R)
  pub known : Known (length S) (length R) d
  pub nodes_most : nodes d ≤ 127
  pub levels_most : levels d ≤ 24

-- Such a file is far smaller than a usize can count.
pub file_small : (n : ℕ) (S R : List ℕ) (d : Derivation) → Encodable n S R d → width_of (file_parts n S R d) < 2 ^ 21
file_small n S R d x =
    let tables = row_small n (length S) (length R) 0 x.states_most x.sets_most x.relations_most (omega arith) in
    omega (arith, width_root n S R d, bits_most d, x.nodes_most)

-- All fields of such a file have room.
pub form_fits : (n : ℕ) (S R : List ℕ) (d : Derivation) → Encodable n S R d → Fitting (file_parts n S R d)
unfolding file_parts Fitting
form_fits n S R d x =
    let sets = x.sets_most in
    let relations = x.relations_most in
    let nodes-room = nodes_fit (length S) (length R) sets relations d x.known in
    let relations-room = fitting_append (map (part (n * n)) R) (in_order parts_of d) x.relations_fit nodes-room in
    (omega arith, (omega arith, fitting_append (map (part n) S) _ x.sets_fit relations-room))

-- Bytes that hold the fields of a file.
module _ (bytes : List ℕ) (n : ℕ) (S R : List ℕ) (d : Derivation) (fields : Holds bytes 0 (file_parts n S R d)) where
  -- What follows the counts, and what follows the sets.
  after_counts : Holds bytes 10 (map (part n) S ++ (map (part (n * n)) R ++ in_order parts_of d))
  unfolding file_parts Holds
  after_counts = fields.1.1

  after_sets_lem : Holds bytes (10 + n * length S) (map (part (n * n)) R ++ in_order parts_of d)
  after_sets_lem = rw (width_map n S) at (holds_append bytes 10 (map (part n) S) _ after_counts).1

  -- The members of the tables.
  pub held_set : (i : ℕ) → i < length S → set_members bytes n i ≡ get_or S i 0
  unfolding set_members set_at
  held_set i under = holds_map bytes 10 n S (holds_append bytes 10 (map (part n) S) _ after_counts).0 i under

  pub held_relation : (r : ℕ) → r < length R → relation_members bytes n (length S) r ≡ get_or R r 0
  unfolding relation_members
  held_relation r under =
      rw (root_at n (length S) r) (holds_map bytes _ (n * n) R (holds_append bytes _ (map (part (n * n)) R) _ after_sets_lem).0 r under)

  abbrev root : ℕ
  root = row_at n (length S) (length R) 0

  nodes_held : Holds bytes root (in_order parts_of d)
  nodes_held =
      rw (root_at n (length S) (length R)) (rw (width_map (n * n) R) at (holds_append bytes _ (map (part (n * n)) R) _ after_sets_lem).1)

  module _ (x : Encodable n S R d) (inside : width_of (file_parts n S R d) ≤ 8 * length bytes) where
    end : width_of (file_parts n S R d) ≡ root + node_bits d
    end = width_root n S R d

    tables_held : tables_at bytes n ≡ Ok (tables_head n (length S) (length R))
    unfolding tables_at sets_read relations_read is_count tables_there field_or file_parts Holds
    tables_held =
        let least : 10 ≤ 8 * length bytes = omega (arith, width_file n S R d) in
        let sets-field = rw fields.0 at (found bytes 0 5 (omega arith) (omega arith) (omega arith) (omega arith)) in
        let relations-field = rw fields.1.0 at (found bytes 5 5 (omega arith) (omega arith) (omega arith) (omega arith)) in
        simp (
          sets-field,
          relations-field,
          le-leb 1 (length S) x.sets_least,
          le-leb (length S) most_tables x.sets_most,
          le-leb 1 (length R) x.relations_least,
          le-leb (length R) most_tables x.relations_most,
          le-leb 1 n x.states_least,
          le-leb n capacity x.states_most,
          le-leb root (8 * length bytes) (omega (arith, end)),
        )

    -- If they also end as a file must, they are the file of these tables and this derivation.
    pub held_file : fill_at bytes (width_of (file_parts n S R d)) ≡ Ok tt → read_proof bytes n ≡ proof (length S) (length R) root d
    unfolding read_proof whole_node
    held_file ends =
        let deep = x.levels_most in
        let few = x.nodes_most in
        let more = end in
        let small = file_small n S R d x in
        let all = nodes_back bytes (length S) (length R) 25 0 root d x.known in
        rw (tables_held, all (omega arith) (omega arith) (omega arith) (omega arith) nodes_held, rw end at ends)

-- The file that is written is read back.
module _ (n : ℕ) (S R : List ℕ) (d : Derivation) (x : Encodable n S R d) where
  abbrev file : List ℕ
  file = packed (file_parts n S R d)

  fields : Holds file 0 (file_parts n S R d)
  fields = packed_holds (file_parts n S R d) (form_fits n S R d x)

  inside : width_of (file_parts n S R d) ≤ 8 * length file
  unfolding bytes_for
  inside = omega (arith, length_packed (file_parts n S R d))

  pub file_back : read_proof (packed (file_parts n S R d)) n ≡ proof (length S) (length R) (row_at n (length S) (length R) 0) d
  file_back = held_file file n S R d fields x inside (packed_ends (file_parts n S R d))

  pub set_back : (i : ℕ) → i < length S → set_members (packed (file_parts n S R d)) n i ≡ get_or S i 0
  set_back = held_set file n S R d fields

  pub relation_back : (r : ℕ) → r < length R → relation_members (packed (file_parts n S R d)) n (length S) r ≡ get_or R r 0
  relation_back = held_relation file n S R d fields
