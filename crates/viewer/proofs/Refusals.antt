-- The refusals of a check are shown in the file at fault, from their place on: 10 to 25 at the byte that holds their bit, and a
-- condition, if both files are well formed, at the byte that holds the first bit of its node.
use Prim.Native.Nat.{ℕ, ◌/◌, ◌<◌, min}
use mathlib.Core.Bool.{Bool, true, false, ◌&&◌}
use mathlib.Core.List.{List, [], ◌∷◌}
use mathlib.Core.Path.{◌≡◌, refl}
use native.Mathlib.Omega.{arith}
use lib.ListN.{length, get_or}
use Rattle.semantics.specs.Language.{Stmt}
use Rattle.semantics.specs.Derivations.{Derivation, skip, assignment, sequence, parallel, conditional, iteration, weaken, nodes, Tables}
use Rattle.semantics.specs.Checking.{Condition, obligations}
use Rattle.semantics.specs.declared.Where.{Where}
use Rattle.semantics.specs.declared.Where.TheVariants as place
use Rattle.semantics.specs.Facts.{place_of}
use Rattle.semantics.proofs.Facts.{handler_place, proof_place}
use Rattle.handler.specs.Reading.{refused, read_handler}
use Rattle.handler.proofs.Places as Handlers
use Rattle.derivation.specs.Reading as Proofs
use Rattle.derivation.proofs.Places as ProofPlaces
use Rattle.pair.specs.Reading.{Pair, pair, read_pair}
use Rattle.checker.specs.declared.Place.TheVariants.{Bit, Node}
use Rattle.viewer.specs.declared.File.TheVariants.{Handler, Proof}
use Rattle.viewer.specs.View.{first_bits, byte_of, location_of}
use Rattle.viewer.proofs.FirstBits.{bits_of, count_bits, node_there}

module _ (hb pb : List ℕ) where
  pub handler_fault_shown : (k place : ℕ) → read_handler hb ≡ refused k place
      → location_of hb pb k (Bit place) ≡ record { file = Handler; index = place / 8 }
  unfolding location_of
  handler_fault_shown k place e =
      let f = Handlers.fault_inside hb k place e in
      let byte : min (place / 8) (length hb) ≡ place / 8 = omega (arith, f.inside) in
      rw (handler_place k f.from_least f.to_most, byte)

  pub proof_fault_shown : (n k place : ℕ) → Proofs.read_proof pb n ≡ Proofs.refused k place
      → location_of hb pb k (Bit place) ≡ record { file = Proof; index = place / 8 }
  unfolding location_of
  proof_fault_shown n k place e =
      let f = ProofPlaces.fault_inside pb n k place e in
      let byte : min (place / 8) (length pb) ≡ place / 8 = omega (arith, f.inside) in
      rw (proof_place k f.from_least f.to_most, byte)

  -- A node of two files that are read.
  pub node_shown_lem : (x : Pair) → read_pair hb pb ≡ pair x → (k j : ℕ) → place_of k ≡ place.Node → j < nodes x.derivation
      → location_of hb pb k (Node j) ≡ record { file = Proof; index = byte_of pb (get_or (first_bits x.root_bit x.derivation) j 0) }
  unfolding location_of
  node_shown_lem x read k j with-node under =
      let few = count_bits hb pb x read in
      rw (with-node, bits_of hb pb x read, node_there pb (first_bits x.root_bit x.derivation) j (omega arith))

-- Every condition of every rule has a number that is shown with a node.
abbrev is_node : Where → Bool
is_node place.Node = true
is_node place.HandlerBit = false
is_node place.ProofBit = false
is_node place.Nowhere = false

abbrev shown : List Condition → Bool
shown [] = true
shown (c ∷ rest) = is_node (place_of c.number) && shown rest

pub conditions_shown : (t : Tables) (d : Derivation) (S : Stmt) → shown (obligations t d S) ≡ true
conditions_shown t (skip h) S = refl
conditions_shown t (assignment h) S = refl
conditions_shown t (sequence h l r) S = refl
conditions_shown t (parallel h l r) S = refl
conditions_shown t (conditional h d) S = refl
conditions_shown t (iteration h K W d) S = refl
conditions_shown t (weaken h d) S = refl
