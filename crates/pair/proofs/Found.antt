-- What the code finds in two files says what was read.
use Prim.Native.Nat.{ℕ}
use mathlib.Core.List.{List}
use mathlib.Core.Path.{◌≡◌, refl}
use native.Mathlib.Omega.{arith}
use Rattle.std.specs.Prelude.{Result, Ok, Err}
use Rattle.bits.specs.declared.FileFault.{FileFault}
use Rattle.semantics.specs.States.{product}
use Rattle.handler.specs.declared.HandlerFile.{HandlerFile}
use Rattle.handler.specs.Header.{head_of}
use Rattle.handler.specs.Reading.{HandlerRead, handler, refused}
use Rattle.handler.specs.Shapes.{handler_file}
use Rattle.derivation.specs.Reading as Proofs
use Rattle.pair.specs.declared.PairFault.{PairFault}
use Rattle.pair.specs.declared.PairFault.TheVariants.{TooLong, At}
use Rattle.pair.specs.declared.PairFile.{PairFile}
use Rattle.pair.specs.Reading.{Pair, PairRead, pair, faulty, long, on_proof, on_handler, file_of, pair_file}
use Rattle.pair.specs.Refinement.{file_over}

-- What is kept of a handler file that was read and what its proof file was read as, and of one with a fault.
abbrev on_proof_read : Result HandlerFile FileFault → Proofs.ProofRead → Result PairFile PairFault
on_proof_read (Err fault) r = Err (At fault)
on_proof_read (Ok f) r = file_over f (Proofs.proof_file r)

abbrev pub on_file : List ℕ → Result HandlerFile FileFault → Result PairFile PairFault
on_file pb (Err fault) = Err (At fault)
on_file pb (Ok f) = on_proof_read (Ok f) (Proofs.read_proof pb f.head.states)

pub kept : (pb : List ℕ) (r : HandlerRead) → pair_file (on_handler pb r) ≡ on_file pb (handler_file r)
unfolding handler_file pair_file head_of
kept pb (refused k place) = refl
kept pb (handler sizes at S) = by (Proofs.read_proof pb (product sizes))
  where
    by : (r : Proofs.ProofRead) → pair_file (on_proof sizes at S r) ≡ on_proof_read (handler_file (handler sizes at S)) r
    by (Proofs.refused k place) = refl
    by (Proofs.proof sets relations root d) = refl

-- The three answers.
pub found_long : (r : PairRead) → pair_file r ≡ Err TooLong → r ≡ long
unfolding pair_file
found_long long f = refl
found_long (faulty k place) f = absurd (let z : ◌≡◌ {A = ℕ} 0 1 = cc in omega arith)
found_long (pair x) f = absurd (let z : ◌≡◌ {A = ℕ} 0 1 = cc in omega arith)

pub found_fault : (r : PairRead) (fault : FileFault) → pair_file r ≡ Err (At fault) → r ≡ faulty fault.number fault.bit
unfolding pair_file
found_fault long fault f = absurd (let z : ◌≡◌ {A = ℕ} 0 1 = cc in omega arith)
found_fault (faulty j i) fault f = cc
found_fault (pair x) fault f = absurd (let z : ◌≡◌ {A = ℕ} 0 1 = cc in omega arith)

-- A pair, and what the code keeps of it.
pub record FoundPair (r : PairRead) (file : PairFile) : Type 0 where
  pub held : Pair
  pub read : r ≡ pair held
  pub kept : file ≡ file_of held

pub found_pair : (r : PairRead) (file : PairFile) → pair_file r ≡ Ok file → FoundPair r file
unfolding pair_file
found_pair long file f = absurd (let z : ◌≡◌ {A = ℕ} 0 1 = cc in omega arith)
found_pair (faulty k place) file f = absurd (let z : ◌≡◌ {A = ℕ} 0 1 = cc in omega arith)
found_pair (pair x) file f = record { held = x; read = refl; kept = cc }
