-- What a call leaves: its answer and both output buffers, from the composition that it computes.
use mathlib.Core.List.{List}
use mathlib.Core.Path.{◌≡◌, refl}
use Prim.Native.Nat.{ℕ}
use lib.ListN.{length}
use Rattle.std.specs.Prelude.{Err, IsErrAnd}
use Rattle.std.proofs.lemmas.Result.{err_from_is_err_and}
use Rattle.checker.specs.declared.Fault.{Fault}
use Rattle.joint.specs.Composing.{Composition, refused, plain, with_room, handler_after, proof_after}
use Rattle.composition.specs.Answers.{Composed, turned, composed}

module _ (hout pout : List ℕ) where
  abbrev into : Composition → Composition
  into o = with_room o (length hout) (length pout)

  abbrev pub Leaves : Composition → Composed → List ℕ → List ℕ → Type 0
  Leaves o r H P = (r ≡ composed (into o)) × ((H ≡ handler_after (into o) hout) × (P ≡ proof_after (into o) pout))

  -- The same composition by another definition.
  pub leaves_same : (o o' : Composition) → o ≡ o' → (r : Composed) (H P : List ℕ) → Leaves o' r H P → Leaves o r H P
  leaves_same o o' e r H P so = rw e so

  -- A refusal leaves both buffers as they are.
  pub leaves_refused : (o : Composition) (pair : ℕ) (f : Fault) → o ≡ refused pair f → (r : Composed) → r ≡ Err (turned pair f)
      → Leaves o r hout pout
  unfolding with_room
  leaves_refused o pair f e r is = rw e (is, (refl, refl))

  -- A number that a `?` passes on is a refusal of neither pair.
  pub leaves_passed : (o : Composition) (k : ℕ) → o ≡ refused 0 (plain k) → (r : Composed) → IsErrAnd r (λ t. t ≡ turned 0 (plain k))
      → Leaves o r hout pout
  leaves_passed o k e r is = let p = err_from_is_err_and r is in leaves_refused o 0 (plain k) e r (rw (p.1, p.2))
