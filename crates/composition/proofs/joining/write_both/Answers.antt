-- The lengths decide; without a fault both files are written where they have room.
use Prim.Native.Nat.{ℕ}
use mathlib.Core.List.{List}
use mathlib.Core.Path.{◌≡◌, sym, ◌∙◌, ap}
use native.Mathlib.Omega.{arith}
use lib.ListN.{length}
use Rattle.std.specs.Prelude.{Ok, Err}
use Rattle.std.proofs.lemmas.Result.{err_from_is_err_and}
use Rattle.writer.specs.Packing.{bytes_for, packed}
use Rattle.writer.proofs.Packed.{length_packed}
use Rattle.derivation.proofs.Buffers.{length_tabulate}
use Rattle.composition.specs.declared.forms.Form.{Form}
use Rattle.composition.specs.declared.joining.Handlers.{Handlers}
use Rattle.composition.specs.declared.joining.Lengths.{Lengths}
use Rattle.composition.specs.declared.numbering.SetNumbers.{SetNumbers}
use Rattle.composition.specs.declared.numbering.RelationNumbers.{RelationNumbers}
use Rattle.joint.specs.Composing.{handler_after, proof_after}
use Rattle.composition.specs.Answers.{composed}
use Rattle.composition.specs.Refinement.{LengthsAre, sets_held, relations_held, node_parts, proof_parts, both_parts, length_fault}
use Rattle.composition.proofs.HandlerFields.{width_handler}
use Rattle.composition.proofs.NewNodes.{proof_length}
use Rattle.composition.proofs.Deciding.{by_fault}
use Rattle.composition.proofs.joining.write_both.Goals.{After-ask_lengths}
use Rattle.composition.proofs.joining.write_both.Goals as goal

-- Both files and their lengths.
module _ (n : ℕ) (first second : List ℕ) (both : Handlers) (f g : Form) (sets : List ℕ) (m : SetNumbers) (relations : List ℕ) (k : RelationNumbers) where
  abbrev handler_of : List ℕ
  handler_of = packed (both_parts first second both)

  abbrev proof_of : List ℕ
  proof_of = packed (proof_parts n (sets_held n sets m.count) (relations_held n relations k.right.count) (node_parts k m f g))

  module _ (l : Lengths) (are : LengthsAre n both f g m k l) where
    handler_length : l.handler ≡ length handler_of
    handler_length = are.handler_is ∙ sym (length_packed _ ∙ ap bytes_for (width_handler first both.first.at _ second both.second.at _))

    proof_long : l.proof ≡ length proof_of
    unfolding sets_held relations_held
    proof_long = are.proof_is ∙ sym (proof_length n _ _ m k f g (length_tabulate _ _) (length_tabulate _ _))

    -- The fault of the files.
    fault_is : (room space : ℕ) → length_fault l.handler l.proof both.steps room space
        ≡ length_fault (length handler_of) (length proof_of) both.steps room space
    fault_is room space = λ i. length_fault (handler_length i) (proof_long i) both.steps room space

-- What the fault says of the files.
fault_of : (c : After-ask_lengths) → let a = c.args in
    length_fault (length (handler_of a.n a.first.now a.second.now a.both a.f a.g a.sets.now a.m a.relations.now a.k))
    (length (proof_of a.n a.first.now a.second.now a.both a.f a.g a.sets.now a.m a.relations.now a.k)) a.both.steps (length a.hout.now) (length a.pout.now)
    ≡ c.ask_lengths.result
fault_of c =
    let a = c.args in
    sym (c.ask_lengths.ensures.answer ∙ fault_is a.n a.first.now a.second.now a.both a.f a.g a.sets.now a.m a.relations.now a.k _ c.measure-l.ensures
    (length a.hout.now) (length a.pout.now))

pub returns-in_err-ask_lengths : goal.returns-in_err-ask_lengths
returns-in_err-ask_lengths c =
    let a = c.args in
    let e = by_fault _ _ a.both.steps (length a.hout.now) (length a.pout.now) _
    (fault_of (goal.at.returns-in_err-ask_lengths c).After-ask_lengths ∙ c.in_err-ask_lengths.was)
    in
    let p = err_from_is_err_and c.from_residual.result c.from_residual.ensures.1 in record {
      answer = p.1 ∙ ap Err p.2 ∙ sym (ap composed e);
      handler = sym (ap (λ o. handler_after o a.hout.now) e);
      proof = sym (ap (λ o. proof_after o a.pout.now) e);
    }

-- All lengths are within their limits and have room.
pub write_handler-requires : goal.write_handler-requires
write_handler-requires c =
    let p = c.requires in
    (p.5.starts, omega (arith, p.5.ends), p.6.starts, omega (arith, p.6.ends), rw (← c.measure-l.ensures.handler_is) c.in_ok-ask_lengths.ensures.within.3)

pub write_proof-requires : goal.write_proof-requires
write_proof-requires c =
    let p = c.requires in
    (p.0, p.1, p.2, p.3, p.4, omega (arith, c.in_ok-ask_lengths.ensures.within), c.measure-l.ensures.proof_is)

pub returns : goal.returns
returns c =
    let a = c.args in
    let are = c.measure-l.ensures in
    let e = by_fault _ _ a.both.steps (length a.hout.now) (length a.pout.now) _ (fault_of (goal.at.returns c).After-ask_lengths ∙ c.in_ok-ask_lengths.was) in
    let long = handler_length a.n a.first.now a.second.now a.both a.f a.g a.sets.now a.m a.relations.now a.k _ are in
    let long' = proof_long a.n a.first.now a.second.now a.both a.f a.g a.sets.now a.m a.relations.now a.k _ are in record {
      answer = (λ i. Ok (record { steps = a.both.steps; handler = long i; proof = long' i })) ∙ sym (ap composed e);
      handler = c.write_handler.ensures ∙ sym (ap (λ o. handler_after o a.hout.now) e);
      proof = c.write_proof.ensures ∙ sym (ap (λ o. proof_after o a.pout.now) e);
    }
