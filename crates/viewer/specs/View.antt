-- Where a refusal is shown: in which of the two files, and from which byte on. A bit is shown from the byte that holds it, a node
-- from the byte in which its rule code begins. Where no bytes are shown, the index is the file's length.
use Rattle.std.specs.Prelude.{ℕ, ◌+◌, ◌*◌, ◌/◌, ◌^◌, min, cond, List, [], ◌∷◌, ◌++◌, ltb, eqb, length, get_or, drop}
use Rattle.semantics.specs.Derivations.{Derivation, skip, assignment, sequence, parallel, conditional, iteration, weaken}
use Rattle.semantics.specs.declared.Where.{Where}
use Rattle.semantics.specs.declared.Where.TheVariants as place
use Rattle.semantics.specs.Facts.{place_of}
use Rattle.derivation.specs.NodeTable.{node_bits}
use Rattle.pair.specs.Reading.{PairRead, pair, faulty, long, read_pair}
use Rattle.checker.specs.declared.Place.{Place}
use Rattle.checker.specs.declared.Place.TheVariants.{Bit, Node}
use Rattle.viewer.specs.declared.File.{File}
use Rattle.viewer.specs.declared.File.TheVariants.{Handler, Proof}
use Rattle.viewer.specs.declared.Location.{Location}

-- The first bits of a derivation's nodes, in file order, where the root begins at a bit: a node has 19 bits, a while 27, and then
-- come its children.
abbrev pub first_bits : ℕ → Derivation → List ℕ
first_bits bit (skip h) = bit ∷ []
first_bits bit (assignment h) = bit ∷ []
first_bits bit (sequence h l r) = bit ∷ (first_bits (bit + 19) l ++ first_bits (bit + 19 + node_bits l) r)
first_bits bit (parallel h l r) = bit ∷ (first_bits (bit + 19) l ++ first_bits (bit + 19 + node_bits l) r)
first_bits bit (conditional h d) = bit ∷ first_bits (bit + 19) d
first_bits bit (iteration h K W d) = bit ∷ first_bits (bit + 27) d
first_bits bit (weaken h d) = bit ∷ first_bits (bit + 19) d

-- A pair of which a file is too long or ill-formed (2 and 10 to 25) has no nodes.
abbrev pub bits_in : PairRead → List ℕ
bits_in long = []
bits_in (faulty k place) = []
bits_in (pair x) = first_bits x.root_bit x.derivation

-- The first bits of the nodes of two files.
unfoldable pub first_bits_of : List ℕ → List ℕ → List ℕ
first_bits_of hb pb = bits_in (read_pair hb pb)

-- The byte of a file that holds a bit; the file's length for a bit that it lacks.
abbrev pub byte_of : List ℕ → ℕ → ℕ
byte_of file bit = min (bit / 8) (length file)

-- The byte that holds the first bit of node j; the file's length where there is no such node.
unfoldable pub node_byte : List ℕ → List ℕ → ℕ → ℕ
node_byte pb bits j = cond (ltb j (length bits)) (byte_of pb (get_or bits j 0)) (length pb)

-- No bytes of the handler file.
abbrev pub nothing_of : List ℕ → Location
nothing_of hb = record { file = Handler; index = length hb }

module _ (hb pb : List ℕ) where
  -- Where a number with a bit is shown, and one with a node, by where the place of the number is. A number that no check gives with this kind
  -- of place, 1 and 2 among them, shows nothing of the handler file.
  abbrev pub bit_shown : Where → ℕ → Location
  bit_shown place.HandlerBit i = record { file = Handler; index = byte_of hb i }
  bit_shown place.ProofBit i = record { file = Proof; index = byte_of pb i }
  bit_shown place.Node i = nothing_of hb
  bit_shown place.Nowhere i = nothing_of hb

  abbrev pub node_shown : Where → ℕ → Location
  node_shown place.Node j = record { file = Proof; index = node_byte pb (first_bits_of hb pb) j }
  node_shown place.HandlerBit j = nothing_of hb
  node_shown place.ProofBit j = nothing_of hb
  node_shown place.Nowhere j = nothing_of hb

  unfoldable pub location_of : ℕ → Place → Location
  location_of k (Bit i) = bit_shown (place_of k) i
  location_of k (Node j) = node_shown (place_of k) j

  abbrev pub file_in : File → List ℕ
  file_in Handler = hb
  file_in Proof = pb

  -- The bytes that are shown: the file from there on.
  unfoldable pub viewed : ℕ → Place → List ℕ
  viewed k place = drop (location_of k place).index (file_in (location_of k place).file)

-- The same where the kind of the place is a number: 0 is a bit, 1 a node, and any other kind fits no number.
unfoldable pub location_by_kind : List ℕ → List ℕ → ℕ → ℕ → ℕ → Location
location_by_kind hb pb k kind place =
    cond (eqb kind 0) (location_of hb pb k (Bit place)) (cond (eqb kind 1) (location_of hb pb k (Node place)) (nothing_of hb))

-- The handler file is 0, the proof file 1.
abbrev pub file_number : File → ℕ
file_number Handler = 0
file_number Proof = 1

-- A location as one number, which is below 2 ^ 64 for every file. If both files are shorter than 2 ^ 32 bytes, / and % by 2 ^ 32
-- give back the file and the index (`view_parts`). An index of 2 ^ 32 or more, which only a longer file has, is added all the same.
unfoldable pub location_number : Location → ℕ
location_number at = file_number at.file * 2 ^ 32 + at.index

unfoldable pub view_of : List ℕ → List ℕ → ℕ → ℕ → ℕ → ℕ
view_of hb pb k kind place = location_number (location_by_kind hb pb k kind place)
