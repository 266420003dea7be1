-- A fault of two files is small: its number is 10 to 25, and its bit at most the number of bits of the longest file.
use Prim.Native.Nat.{ℕ, ◌*◌, ◌≤◌, max}
use mathlib.Core.List.{List}
use native.Mathlib.Omega.{arith}
use lib.ListN.{length}
use Rattle.bits.proofs.Places.{FaultIn}
use Rattle.semantics.specs.States.{product}
use Rattle.handler.proofs.Places as Handlers
use Rattle.derivation.proofs.Places as ProofPlaces
use Rattle.pair.specs.Limits.{most_handler_bytes, most_proof_bytes}
use Rattle.pair.specs.Reading.{faulty}
use Rattle.pair.proofs.Cases.{Case, handler_fault, proof_fault}

-- The bits of the longest file.
abbrev pub most_bits : ℕ
most_bits = 8 * max most_handler_bytes most_proof_bytes

pub record FaultSmall (k place : ℕ) : Type 0 where
  pub least : 10 ≤ k
  pub most : k ≤ 25
  pub inside : place ≤ most_bits

-- A fault of a file that is not too long.
in_file : (bytes : List ℕ) (bound : ℕ) → length bytes ≤ bound → 8 * bound ≤ most_bits → (least most k place : ℕ) → 10 ≤ least → most ≤ 25
    → FaultIn bytes least most k place → FaultSmall k place
in_file bytes bound short bits least most k place low high f =
    record { least = omega (arith, f.from_least); most = omega (arith, f.to_most); inside = omega (arith, f.inside) }

pub fault_small : (hb pb : List ℕ) (k place : ℕ) → Case hb pb (faulty k place) → FaultSmall k place
fault_small hb pb k place (handler_fault s h) =
    in_file hb most_handler_bytes s.handler_length (omega arith) 10 18 k place (omega arith) (omega arith) (Handlers.fault_inside hb k place h)
fault_small hb pb k place (proof_fault s sizes at S h p) =
    in_file pb most_proof_bytes s.proof_length (omega arith) 20 25 k place (omega arith) (omega arith) (ProofPlaces.fault_inside pb (product sizes) k place p)
