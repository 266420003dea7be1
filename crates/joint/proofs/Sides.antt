-- What is taken from an accepted pair of files. By its members the derivation of its proof file has no fault, because the first fault
-- looks at members only; and a proof file has room for it, because one held it.
use Rattle.std.specs.Prelude.{Ok}
use Prim.Native.Nat.{ℕ, ◌≤◌}
use mathlib.Core.List.{List}
use mathlib.Core.Option.{none}
use mathlib.Core.Path.{◌≡◌, refl, sym, ◌∙◌, subst}
use Rattle.semantics.specs.States.{product, machine_of}
use Rattle.semantics.specs.StepNumber.{steps}
use Rattle.semantics.specs.Derivations.{names_of, nodes, levels, spec_of}
use Rattle.semantics.specs.Checking.{first_fault}
use Rattle.handler.specs.Reading.{handler, read_handler}
use Rattle.pair.specs.Reading.{Pair, states_of, pair, read_pair}
use Rattle.pair.specs.Modes.{rows}
use Rattle.pair.proofs.Cases.{read_holds}
use Rattle.checker.specs.Verdicts.{answer}
use Rattle.checker.proofs.Acceptance.{accepted_exactly}
use Rattle.form.specs.Members.{by_members}
use Rattle.form.proofs.Renaming.{nodes_rename, levels_rename}
use Rattle.form.proofs.Verdicts.{member_tables, members_fault, members-spec}
use Rattle.form.proofs.Forms.{Writable, writable}
use Rattle.joint.specs.Composing.{Side, side_in, side_of}

-- What is known of the side of a pair that is accepted with k steps, over variables of these sizes.
pub record AcceptedSide (hb pb : List ℕ) (k : ℕ) (sizes : List ℕ) (side : Side) : Type 0 where
  pub held : Pair
  pub read : read_pair hb pb ≡ pair held
  pub is_side : side ≡ side_in pb (pair held)
  pub nodes_are : nodes side.derivation ≡ nodes held.derivation
  pub levels_are : levels side.derivation ≡ levels held.derivation
  pub handler_read : read_handler hb ≡ handler sizes side.at side.statement
  pub tables_are : side.tables ≡ spec_of (member_tables (machine_of sizes)) (names_of side.derivation)
  pub unbroken : first_fault (member_tables (machine_of sizes)) side.derivation side.statement 0 ≡ none
  pub room : Writable (product sizes) side.derivation
  pub number : k ≡ steps (product sizes) side.statement
  pub limit : k ≤ 4294967295

pub accepted_side : (hb pb : List ℕ) (words k : ℕ) → (answer hb pb rows words).verdict ≡ Ok k
    → AcceptedSide hb pb k (side_of hb pb).sizes (side_of hb pb)
unfolding side_of by_members
accepted_side hb pb words k e =
    let a = (accepted_exactly hb pb rows words k).0 e in
    let x = a.held in
    let files = read_holds hb pb x a.read in
    let m = machine_of x.sizes in
    subst (λ r. AcceptedSide hb pb k (side_in pb r).sizes (side_in pb r)) (sym a.read) (record {
      held = x;
      read = a.read;
      is_side = refl;
      nodes_are = nodes_rename _ _ x.derivation;
      levels_are = levels_rename _ _ x.derivation;
      handler_read = files.handler_read;
      tables_are = members-spec m pb x.sets x.derivation;
      unbroken = sym (members_fault m pb x.sets x.derivation x.statement 0) ∙ a.unbroken;
      room = writable pb (states_of x) x.sets x.relations x.root_bit x.derivation files.proof_read;
      number = a.number;
      limit = a.limit;
    })
