-- A location is within its file: the bytes shown are a part of it, and the location as one number can be taken apart.
use Prim.Native.Nat.{ℕ, ◌/◌, ◌%◌, ◌^◌, ◌≤◌, ◌<◌}
use mathlib.Core.List.{List}
use mathlib.Core.Path.{◌≡◌}
use native.Mathlib.Omega.{arith}
use lib.Dec.{ltb, eqb}
use lib.ListN.{length}
use Rattle.bits.proofs.Places.{either}
use Rattle.semantics.specs.declared.Where.{Where}
use Rattle.semantics.specs.declared.Where.TheVariants as place
use Rattle.semantics.specs.Facts.{place_of}
use Rattle.checker.specs.declared.Place.{Place}
use Rattle.checker.specs.declared.Place.TheVariants.{Bit, Node}
use Rattle.viewer.specs.declared.File.{File}
use Rattle.viewer.specs.declared.File.TheVariants.{Handler, Proof}
use Rattle.viewer.specs.declared.Location.{Location}
use Rattle.viewer.specs.View.{first_bits_of, byte_of, node_byte, bit_shown, node_shown, location_of, file_in, location_by_kind, file_number, location_number, view_of}

module _ (hb pb : List ℕ) where
  abbrev pub Inside : Location → Type 0
  Inside at = at.index ≤ length (file_in hb pb at.file)

  byte_inside : (file : List ℕ) (bit : ℕ) → byte_of file bit ≤ length file
  byte_inside file bit = omega arith

  node_inside : (bits : List ℕ) (j : ℕ) → node_byte pb bits j ≤ length pb
  unfolding node_byte
  node_inside bits j = either (λ i. i ≤ length pb) (ltb j (length bits)) _ _ (byte_inside pb _) (omega arith)

  bit_inside : (w : Where) (i : ℕ) → Inside (bit_shown hb pb w i)
  bit_inside place.HandlerBit i = byte_inside hb i
  bit_inside place.ProofBit i = byte_inside pb i
  bit_inside place.Node i = omega arith
  bit_inside place.Nowhere i = omega arith

  at_node_inside : (w : Where) (j : ℕ) → Inside (node_shown hb pb w j)
  at_node_inside place.Node j = node_inside (first_bits_of hb pb) j
  at_node_inside place.HandlerBit j = omega arith
  at_node_inside place.ProofBit j = omega arith
  at_node_inside place.Nowhere j = omega arith

  pub location_inside : (k : ℕ) (place : Place) → Inside (location_of hb pb k place)
  unfolding location_of
  location_inside k (Bit i) = bit_inside (place_of k) i
  location_inside k (Node j) = at_node_inside (place_of k) j

  pub inside_by_kind : (k kind place : ℕ) → Inside (location_by_kind hb pb k kind place)
  unfolding location_by_kind
  inside_by_kind k kind place =
      either Inside (eqb kind 0) _ _ (location_inside k (Bit place)) (either Inside (eqb kind 1) _ _ (location_inside k (Node place)) (omega arith))

  -- What is above both lengths is above the index.
  module _ (most : ℕ) (handler-below : length hb < most) (proof-below : length pb < most) where
    below : (file : File) (i : ℕ) → i ≤ length (file_in hb pb file) → i < most
    below Handler i within = omega arith
    below Proof i within = omega arith

    pub index_below : (at : Location) → Inside at → at.index < most
    index_below at within = below at.file at.index within

-- The number of a location in files of fewer than 2 ^ 32 bytes gives back the file and the index.
parts_of_lem : (file : File) (i : ℕ) → i < 2 ^ 32 → let n = location_number (record { file = file; index = i }) in (n / 2 ^ 32 ≡ file_number file) × (n % 2 ^ 32 ≡ i)
unfolding location_number
parts_of_lem Handler i few = (omega arith, omega arith)
parts_of_lem Proof i few = (omega arith, omega arith)

pub view_parts : (hb pb : List ℕ) → length hb < 2 ^ 32 → length pb < 2 ^ 32 → (k kind place : ℕ)
    → let at = location_by_kind hb pb k kind place in let n = view_of hb pb k kind place in (n / 2 ^ 32 ≡ file_number at.file) × (n % 2 ^ 32 ≡ at.index)
unfolding view_of
view_parts hb pb short short' k kind place =
    let at = location_by_kind hb pb k kind place in
    parts_of_lem at.file at.index (index_below hb pb (2 ^ 32) short short' at (inside_by_kind hb pb k kind place))
