-- The number is that of the check's states, which it determines (`states_decoded_lem`).
use Rattle.std.proofs.Common.{◌≡◌, ◌∙◌, ap, subst, ℕ, List, length}
use Rattle.pair.specs.declared.Mode.{Mode}
use Rattle.pair.specs.Modes.{rows}
use Rattle.checker.specs.Verdicts.{Verdict, answer}
use Rattle.report.specs.States.{states_of, states_number, states_decoded}
use Rattle.report.proofs.Decoding.{states_decoded_lem}
use Rattle.host.proofs.handover_states.Goals as goal

module _ (hb pb : List ℕ) (words : ℕ) (mode : Mode) (is_rows : mode ≡ rows) (v : Verdict) (told : v ≡ (answer hb pb mode words).verdict) where
  states : (code : ℕ) → code ≡ states_number (states_of v) → states_decoded code ≡ states_of (answer hb pb rows words).verdict
  states code is =
      let by_rows = subst (λ m. v ≡ (answer hb pb m words).verdict) is_rows told in
      ap states_decoded (is ∙ ap (λ v. states_number (states_of v)) by_rows) ∙ states_decoded_lem hb pb rows words

pub returns-clause-states : goal.returns-clause-states
returns-clause-states c =
    states c.args.handler.now c.args.proof.now (length c.args.work.now) _ c.rows.ensures _ c.check.ensures.verdict _ c.states_code.ensures
