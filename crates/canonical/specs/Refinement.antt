-- What the private functions require and ensure. No public contract uses this.
use Rattle.std.specs.Prelude.{ℕ, zero, suc, ◌+◌, ◌*◌, ◌/◌, ◌%◌, ◌^◌, ◌≤◌, ◌<◌, ◌≡◌, List, ◌∷◌, ◌++◌, map, length, take, get_or}
use Rattle.std.specs.Int.Bits.{bit_or, bit_xor}
use Rattle.bits.specs.Fields.{bits_at}
use Rattle.states.specs.Sets.{capacity}
use Rattle.semantics.specs.Derivations.{Derivation}
use Rattle.semantics.specs.Derivations as Derivations
use Rattle.derivation.specs.declared.ProofHead.{ProofHead}
use Rattle.derivation.specs.Tables.{most_tables}
use Rattle.derivation.specs.NodeTable.{node_table}
use Rattle.derivation.specs.Reading.{proof, read_proof}
use Rattle.form.specs.Members.{node_by, rename, by_members}
use Rattle.form.specs.Form.{sets_in, relations_in, numbered, parts_of}
use Rattle.writer.specs.Packing.{Part, part}
use Rattle.form.specs.Mentions.{all_mentioned}
use Rattle.form.proofs.Mentions.{Few}
use Rattle.canonical.specs.Nodes.{name_in, held_in}
use Rattle.canonical.specs.declared.Run.{Run}
use Rattle.canonical.specs.declared.Naming.{Naming}
use Rattle.canonical.specs.declared.Numbering.{Numbering}

-- The sets of a proof file over n states, and its relations where it has so many sets.
abbrev pub set_run : ℕ → Run
set_run n = record { from = 10; width = n }

abbrev pub relation_run : ℕ → ℕ → Run
relation_run n sets = record { from = 10 + n * sets; width = n * n }

-- The members of table i of a run.
unfoldable pub members_in : List ℕ → Run → ℕ → ℕ
members_in bytes run i = bits_at bytes (run.from + run.width * i) run.width

-- A run whose cursors have room.
abbrev pub Within : Run → Type 0
Within run = (run.from ≤ 2 ^ 20) × (run.width ≤ capacity * capacity)

-- A mix of 64 bits with one more word: it is rotated by 5 first.
unfoldable pub mix_with : ℕ → ℕ → ℕ
mix_with mix word = bit_xor (bit_or (mix * 2 ^ 5 % 2 ^ 64) (mix / 2 ^ 59)) word

-- The mix of the first `count` words from a cursor on.
unfoldable pub mix_words : List ℕ → ℕ → ℕ → ℕ
mix_words bytes at zero = 0
mix_words bytes at (suc count) = mix_with (mix_words bytes at count) (bits_at bytes (at + 64 * count) 64)

-- The mix of `width` bits: of the whole words, and then of the bits that are left.
unfoldable pub mix_at : List ℕ → ℕ → ℕ → ℕ
mix_at bytes at width = mix_with (mix_words bytes at (width / 64)) (bits_at bytes (at + 64 * (width / 64)) (width % 64))

-- The mix of table i of a run.
abbrev pub mix_in : List ℕ → Run → ℕ → ℕ
mix_in bytes run i = mix_at bytes (run.from + run.width * i) run.width

-- The first `count` entries of a list are such.
abbrev pub Mixes : List ℕ → Run → ℕ → List ℕ → Type 0
Mixes bytes run count mixes = (i : ℕ) → i < count → get_or mixes i 0 ≡ mix_in bytes run i

-- The members of the tables that a list names, each number modulo `most_tables`.
unfoldable pub members_of : List ℕ → Run → List ℕ → List ℕ
members_of bytes run order = map (λ i. members_in bytes run (i % most_tables)) order

-- r is the least with the value of i.
pub record Least (f : ℕ → ℕ) (i r : ℕ) : Type 0 where
  pub within : r ≤ i
  pub same : f r ≡ f i
  pub first : (j : ℕ) → j < r → f j ≡ f i → ⊥

-- The first `count` entries of a list are such.
abbrev pub Leasts : (ℕ → ℕ) → ℕ → List ℕ → Type 0
Leasts f count reps = (i : ℕ) → i < count → Least f i (get_or reps i 0)

-- A buffer of which the first `count` entries are mentioned: it has room for `most_tables` different ones.
pub record Listing (order : List ℕ) (count : ℕ) : Type 0 where
  pub length_enough : most_tables ≤ length order
  pub count_most : count ≤ most_tables
  pub few : Few most_tables (take count order)

-- A buffer with `count` entries and after the mentions of xs, with r entries.
pub record After (entry : List ℕ) (count : ℕ) (xs exit : List ℕ) (r : ℕ) : Type 0 where
  pub listed : take r exit ≡ all_mentioned (take count entry) xs
  pub most : r ≤ most_tables

-- A proof file over n states that was read, and the table of its nodes.
pub record Read (bytes : List ℕ) (n : ℕ) (head : ProofHead) (nodes : List ℕ) : Type 0 where
  pub d : Derivation
  pub read : read_proof bytes n ≡ proof head.sets head.relations head.root d
  pub counted : head.nodes ≡ Derivations.nodes d
  pub table : nodes ≡ node_table head.root d

-- The tables of one kind, over a run of the file, whose members are `wanted` in their order.
pub record Names (bytes : List ℕ) (run : Run) (wanted : List ℕ) (m : Naming) : Type 0 where
  pub most : m.count ≤ most_tables
  pub counted : m.count ≡ length wanted
  pub are : members_of bytes run (take m.count m.order) ≡ wanted

-- The tables of the form of d, and their numbers in it.
pub record Numbers (bytes : List ℕ) (n sets : ℕ) (d : Derivation) (m : Numbering) : Type 0 where
  pub of_sets : Names bytes (set_run n) (sets_in (by_members bytes n sets d)) m.sets
  pub of_relations : Names bytes (relation_run n sets) (relations_in (by_members bytes n sets d)) m.relations
  pub renamed : rename (name_in m.sets.names) (name_in m.relations.names) d ≡ numbered (by_members bytes n sets d)

-- The bytes have room for so many bits from a cursor on.
abbrev pub Room : List ℕ → ℕ → ℕ → Type 0
Room out at bits = (at + bits ≤ 8 * length out) × (at + bits < 2 ^ 64)

-- So few states and tables that no product of them is large.
abbrev pub Small : ℕ → ℕ → Numbering → Type 0
Small n sets m = (1 ≤ n) × (n ≤ capacity) × (sets ≤ most_tables) × (m.sets.count ≤ most_tables) × (m.relations.count ≤ most_tables)

-- The fields that are written of a file over n states with so many sets, and of the words of its nodes.
unfoldable pub parts_in : List ℕ → ℕ → ℕ → Numbering → List ℕ → List Part
parts_in bytes n sets m words =
    part 5 m.sets.count
    ∷ part 5 m.relations.count
    ∷ (map (part n) (members_of bytes (set_run n) (take m.sets.count m.sets.order))
    ++ (map (part (n * n)) (members_of bytes (relation_run n sets) (take m.relations.count m.relations.order))
    ++ held_in (λ x. parts_of (node_by (name_in m.sets.names) (name_in m.relations.names) x)) words))
