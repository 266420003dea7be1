-- Worked examples on small files: the proof.bin of docs/FORMAT.md over N = 2, and each fault from 20 to 25 with its place.
use Prim.Native.Nat.{ℕ, ◌+◌, ◌*◌}
use mathlib.Core.List.{List, [], ◌∷◌, ◌++◌}
use mathlib.Core.Path.{◌≡◌, refl}
use Rattle.std.specs.Prelude.{Ok, Err}
use Rattle.bits.specs.Fields.{bit_length, bit_at, bits_at, is_there, fault_at, field_at, field_or, first_set, fill_bits, further_byte, fill_from, fill_at}
use Rattle.states.specs.Sets.{set_words, capacity}
use Rattle.semantics.specs.declared.Names.{Names}
use Rattle.semantics.specs.Derivations.{skip, assignment, parallel, iteration, weaken}
use Rattle.derivation.specs.declared.ProofFile.{ProofFile}
use Rattle.derivation.specs.Tables.{most_tables, set_at, row_at, tables_there, is_count, relations_read, sets_read, tables_at, word_at, set_word_at, entry_word, table_word, tabulate, written}
use Rattle.derivation.specs.Nodes.{on_name, named_table, loop_head, names_head, rule_head, node_head, node_at, whole_node}
use Rattle.derivation.specs.Reading.{ProofRead, proof, refused, read_proof, proof_file}
use Rattle.derivation.specs.NodeTable.{node_word, node_of, node_in, padded, node_table}

-- One set {0,1}; relations none, {(0,1)}, {(0,1),(1,1)}; an assignment node with P 0, R 0, G 1, Q 2.
abbrev sample : List ℕ
sample = 0x08 ∷ 0xF0 ∷ 0x45 ∷ 0x20 ∷ 0x02 ∷ 0x40 ∷ []

-- The same tables under other nodes.
abbrev over : List ℕ → List ℕ
over nodes = 0x08 ∷ 0xF0 ∷ 0x45 ∷ nodes

-- One set and one relation over one state, and 24 weakens one below the other; eight are 19 bytes.
abbrev eight : List ℕ
eight =
    0x00 ∷ 0x01 ∷ 0x80 ∷ 0x00 ∷ 0x30 ∷ 0x00 ∷ 0x06 ∷ 0x00 ∷ 0x00 ∷ 0xC0 ∷ 0x00 ∷ 0x18 ∷ 0x00 ∷ 0x03 ∷ 0x00 ∷ 0x00 ∷ 0x60 ∷ 0x00 ∷ 0x0C ∷ []

abbrev deep : List ℕ
deep = 0x08 ∷ 0x6C ∷ eight ++ eight ++ eight

-- The table of a parallel over a while and a weaken.
abbrev all : Names
all = record { p = 1; r = 2; g = 3; q = 15 }

abbrev tree : List ℕ
tree = node_table 24 (parallel all (iteration all 4 9 (skip all)) (weaken all (assignment all)))

-- Opens every definition of reading, for the cases to compute.
reading : List ℕ → ℕ → ProofRead
unfolding read_proof tables_at sets_read relations_read is_count tables_there row_at whole_node node_at node_head rule_head names_head loop_head
    named_table on_name field_or field_at is_there bits_at bit_at bit_length fill_at fill_from further_byte fill_bits first_set
reading = read_proof

pub sample_read : read_proof sample 2 ≡ proof 1 3 24 (assignment (record { p = 0; r = 0; g = 1; q = 2 }))
unfolding reading
sample_read = refl

-- Its table of nodes: one node, which begins at bit 24; past it the word is 0, which is a skip.
pub sample_nodes :
    (file : ProofFile) × (proof_file (read_proof sample 2) ≡ Ok file)
    × (node_in file.nodes 0 ≡ record { rule = 1; names = record { p = 0; r = 0; g = 1; q = 2 }; k = 0; w = 0; after = 1; bit = 24 })
    × (node_in file.nodes 1 ≡ record { rule = 0; names = record { p = 0; r = 0; g = 0; q = 0 }; k = 0; w = 0; after = 0; bit = 0 })
unfolding reading node_in node_of node_table padded node_word
sample_nodes = (_, refl, refl, refl)

-- Nodes are numbered in file order; a while takes 27 bits, another node 19.
pub tree_nodes :
    (node_in tree 0 ≡ record { rule = 3; names = all; k = 0; w = 0; after = 3; bit = 24 })
    × (node_in tree 1 ≡ record { rule = 5; names = all; k = 4; w = 9; after = 3; bit = 43 })
    × (node_in tree 2 ≡ record { rule = 0; names = all; k = 0; w = 0; after = 3; bit = 70 })
    × (node_in tree 3 ≡ record { rule = 6; names = all; k = 0; w = 0; after = 5; bit = 89 })
    × (node_in tree 4 ≡ record { rule = 1; names = all; k = 0; w = 0; after = 5; bit = 108 })
unfolding node_in node_of node_table padded node_word
tree_nodes = (refl, refl, refl, refl, refl)

-- The first word of entry i of its work words, and that of row s of relation r.
abbrev entry : ℕ → ℕ
entry i = table_word sample 2 1 3 (set_words * i)

abbrev row : ℕ → ℕ → ℕ
row r s = entry (most_tables + capacity * r + s)

-- Its one set, relation 0 without a pair, one pair of relation 1, both of relation 2; there is no relation 3, and no state 2.
pub sample_words :
    (entry 0 ≡ 3) × (entry 1 ≡ 0) × (row 0 0 ≡ 0) × (row 0 1 ≡ 0) × (row 1 0 ≡ 2) × (row 1 1 ≡ 0) × (row 1 2 ≡ 0)
    × (row 2 0 ≡ 2) × (row 2 1 ≡ 2) × (row 2 2 ≡ 0) × (row 3 0 ≡ 0)
unfolding table_word entry_word set_at row_at set_word_at word_at bit_at
sample_words = (refl, refl, refl, refl, refl, refl, refl, refl, refl, refl, refl)

-- A shorter buffer is written as far as it goes.
pub short_buffer : written (table_word sample 2 1 3) (7 ∷ 7 ∷ []) ≡ 3 ∷ 0 ∷ []
unfolding written tabulate table_word entry_word set_at set_word_at word_at bit_at
short_buffer = refl

-- 20: each field in turn, and a number of states that no field can have.
pub past_the_end :
    (read_proof [] 2 ≡ refused 20 0) × (read_proof (0x08 ∷ []) 2 ≡ refused 20 8) × (read_proof (0x08 ∷ 0xF0 ∷ []) 2 ≡ refused 20 16)
    × (read_proof (over []) 2 ≡ refused 20 24) × (read_proof (over (0x20 ∷ [])) 2 ≡ refused 20 32)
    × (read_proof sample 0 ≡ refused 20 48) × (read_proof sample (capacity + 1) ≡ refused 20 48)
unfolding reading
past_the_end = (refl, refl, refl, refl, refl, refl, refl)

-- 21: no sets, 17 sets with no second field, no relations, 17 relations.
pub counts :
    (read_proof (0x00 ∷ 0xF0 ∷ []) 2 ≡ refused 21 0) × (read_proof (0x88 ∷ []) 2 ≡ refused 21 0)
    × (read_proof (0x08 ∷ 0x00 ∷ []) 2 ≡ refused 21 5) × (read_proof (0x0C ∷ 0x40 ∷ []) 2 ≡ refused 21 5)
unfolding reading
counts = (refl, refl, refl, refl)

-- 22: rule code 7. 23: set 1 of one, relation 3 of three; a while's K and W after its other names.
pub codes_and_names :
    (read_proof (over (0xE0 ∷ 0x02 ∷ 0x40 ∷ [])) 2 ≡ refused 22 24) × (read_proof (over (0x22 ∷ 0x02 ∷ 0x40 ∷ [])) 2 ≡ refused 23 27)
    × (read_proof (over (0x20 ∷ 0x62 ∷ 0x40 ∷ [])) 2 ≡ refused 23 31)
    × (read_proof (over (0xA0 ∷ 0x02 ∷ 0x42 ∷ 0x40 ∷ [])) 2 ≡ refused 23 43) × (read_proof (over (0xA0 ∷ 0x02 ∷ 0x40 ∷ 0x60 ∷ [])) 2 ≡ refused 23 47)
unfolding reading
codes_and_names = (refl, refl, refl, refl, refl)

-- 24: the node at level 25, and the 128th node; a field that is not there goes before it, an unused code after it.
pub too_many :
    (read_proof deep 1 ≡ refused 24 468) × (node_head sample 1 3 24 127 24 ≡ Err (fault_at 24 24)) × (node_head sample 1 3 1 126 24 ≡ Ok (record { rule = 1; names = record { p = 0; r = 0; g = 1; q = 2 }; k = 0; w = 0; next = 43 }))
    × (node_head sample 1 3 0 0 24 ≡ Err (fault_at 24 24)) × (node_head sample 1 3 0 0 48 ≡ Err (fault_at 20 48)) × (node_head (0xE0 ∷ []) 1 3 24 127 0 ≡ Err (fault_at 24 0))
unfolding reading
too_many = (refl, refl, refl, refl, refl, refl)

-- 25: the first fill bit, the last, and a further byte.
pub misfilled :
    (read_proof (over (0x20 ∷ 0x02 ∷ 0x51 ∷ [])) 2 ≡ refused 25 43) × (read_proof (over (0x20 ∷ 0x02 ∷ 0x41 ∷ [])) 2 ≡ refused 25 47)
    × (read_proof (sample ++ 0x00 ∷ []) 2 ≡ refused 25 48)
unfolding reading
misfilled = (refl, refl, refl)
