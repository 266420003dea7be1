-- The number is the code of the check's verdict, which it determines but for the states (`answer_decoded`); so the check's promise is that
-- of what is decoded.
use Rattle.std.proofs.Common.{◌≡◌, sym, ◌∙◌, ap, subst, ℕ, List, length}
use Rattle.pair.specs.declared.Mode.{Mode}
use Rattle.pair.specs.Modes.{rows}
use Rattle.checker.specs.Verdicts.{Verdict, answer, AcceptedIsSound}
use Rattle.report.specs.Code.{code_of, without_states, decoded}
use Rattle.report.proofs.Decoding.{answer_decoded, accepted_alike}
use Rattle.host.proofs.handover_check.Goals as goal

module _ (hb pb : List ℕ) (words : ℕ) (mode : Mode) (is_rows : mode ≡ rows) (v : Verdict) (told : v ≡ (answer hb pb mode words).verdict) (code : ℕ) (is : code ≡ code_of v) where
  by_rows : v ≡ (answer hb pb rows words).verdict
  by_rows = subst (λ m. v ≡ (answer hb pb m words).verdict) is_rows told

  verdict : decoded code ≡ without_states (answer hb pb rows words).verdict
  verdict = ap decoded (is ∙ ap code_of by_rows) ∙ answer_decoded hb pb rows words

  promise : AcceptedIsSound hb pb mode v → AcceptedIsSound hb pb rows (decoded code)
  promise sound =
      subst (AcceptedIsSound hb pb rows) (sym verdict)
      (accepted_alike hb pb rows (answer hb pb rows words).verdict
      (subst (AcceptedIsSound hb pb rows) by_rows (subst (λ m. AcceptedIsSound hb pb m v) is_rows sound)))

pub returns-clause-verdict : goal.returns-clause-verdict
returns-clause-verdict c =
    verdict c.args.handler.now c.args.proof.now (length c.args.work.now) _ c.rows.ensures _ c.check.ensures.verdict _ c.code_of.ensures

pub returns-clause-promise : goal.returns-clause-promise
returns-clause-promise c =
    promise c.args.handler.now c.args.proof.now (length c.args.work.now) _ c.rows.ensures _ c.check.ensures.verdict _ c.code_of.ensures
    c.check.ensures.promise
