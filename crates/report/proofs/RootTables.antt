-- The root as a host gets it: the first node of the table has the names of the derivation's root, the numbers can be taken apart again, and
-- they are those of the tables that an accepted pair's promise speaks of.
use Rattle.std.specs.Prelude.{Ok}
use Prim.Native.Nat.{ℕ, ◌-◌, ◌/◌, ◌%◌, ◌^◌, ◌<◌}
use mathlib.Core.List.{List}
use mathlib.Core.Path.{◌≡◌, refl, ap}
use native.Mathlib.Omega.{arith}
use lib.ListN.{length, replicate}
use Rattle.semantics.specs.declared.Names.{Names}
use Rattle.semantics.specs.States.{machine_of}
use Rattle.semantics.specs.Derivations.{Derivation, names_of}
use Rattle.semantics.specs.Promise.{Promise}
use Rattle.derivation.specs.NodeTable.{node_in, node_words, padded, node_table}
use Rattle.derivation.specs.Reading as Proofs
use Rattle.derivation.proofs.NodeTable.{names_known, node_held}
use Rattle.derivation.proofs.Files.{read_known}
use Rattle.pair.specs.declared.Mode.{Mode}
use Rattle.pair.specs.Reading.{Pair, states_of}
use Rattle.pair.specs.Modes.{root_spec}
use Rattle.checker.specs.Verdicts.{answer}
use Rattle.checker.proofs.Promised.{accepted_is_sound}
use Rattle.report.specs.Root.{root_number, root_of}

-- A name is below 16.
abbrev pub Small : Names → Type 0
Small h = (h.p < 16) × (h.r < 16) × (h.g < 16) × (h.q < 16)

module _ (pb : List ℕ) (n sets relations at : ℕ) (d : Derivation) (read : Proofs.read_proof pb n ≡ Proofs.proof sets relations at d) where
  pub names_small : Small (names_of d)
  names_small =
      let k = read_known pb n sets relations at d read in
      omega (arith, names_known sets relations d k.known, k.sets_most, k.relations_most)

  -- The first node of the table is the root.
  pub root_names : (node_in (node_table at d) 0).names ≡ names_of d
  unfolding node_table padded
  root_names =
      let k = read_known pb n sets relations at d read in
      ap (λ x. x.names)
      (node_held sets relations k.sets_most k.relations_most (node_table at d) (replicate (127 - length (node_words 0 at d)) 0) 0 at d
      k.known (omega (arith, k.nodes_most)) refl)

-- The numbers of a root can be taken apart.
pub root_parts : (n : ℕ) (h : Names) → n < 2 ^ 8 → Small h → (code : ℕ) → code ≡ root_number n h
    → (code % 2 ^ 8 ≡ n) × (code / 2 ^ 8 % 2 ^ 8 ≡ h.p) × (code / 2 ^ 16 % 2 ^ 8 ≡ h.r) × (code / 2 ^ 24 % 2 ^ 8 ≡ h.g) × (code / 2 ^ 32 ≡ h.q)
root_parts n h few small code e = (omega arith, omega arith, omega arith, omega arith, omega arith)

-- An accepted pair keeps its promise with the tables that its root names.
pub root_of_accepted : (hb pb : List ℕ) (mode : Mode) (words k : ℕ) → (answer hb pb mode words).verdict ≡ Ok k
    → (x : Pair) × Promise (machine_of x.sizes) x.statement (root_spec pb mode x) k × (root_of hb pb ≡ root_number (states_of x) (names_of x.derivation))
unfolding root_of
root_of_accepted hb pb mode words k e =
    let (x, (read, promise)) = (accepted_is_sound hb pb mode words).sound k e in
    (x, promise, rw read)
