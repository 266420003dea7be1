-- The call is made with the record that the numbers hold; if it is done, these are 50, and the record is read from those at exit.
use mathlib.Core.Path.{◌≡◌, sym, ◌∙◌, ap, subst}
use lib.ListN.{length}
use Rattle.report.specs.Code.{code_of, decoded}
use Rattle.report.proofs.Decoding.{decoded_back}
use Rattle.std.specs.Prelude.{is_ok}
use Rattle.frame.specs.declared.Outcome.{Outcome}
use Rattle.frame.specs.Calls.{as_verdict, admit}
use Rattle.frame.specs.Lent.{frame_in}
use Rattle.frame.proofs.Outcomes.{admitted_well, well_whole}
use Rattle.admission.proofs.Decoding.{Coded, admit_coded, served_read}
use Rattle.admission.proofs.lent.admit_lent.Goals.{After-admit-answer}
use Rattle.admission.proofs.lent.admit_lent.Goals as goal

-- The outcome of the call.
abbrev left : (c : After-admit-answer) → Outcome
left c = record { frame = c.admit-answer.new.frame; answer = c.admit-answer.result }

outcome : (c : After-admit-answer) →
    let a = c.args in
    left c ≡ admit (frame_in a.numbers.now) a.place a.handler.now a.proof.now a.ticks (length a.work.now)
outcome c = rw (← c.frame_in-frame.ensures) c.admit-answer.ensures.outcome

pub answered-requires : goal.answered-requires
unfolding admit
answered-requires c done =
    well_whole _ (admitted_well _ _ _ _ (sym (ap (λ o. is_ok o.answer) (outcome (goal.at.answered-requires c).After-admit-answer)) ∙ done))

pub returns-clause-number : goal.returns-clause-number
returns-clause-number c =
    c.answered.ensures.number ∙ ap (λ o. code_of (as_verdict o.answer)) (outcome (goal.at.returns-clause-number c).After-admit-answer)

pub returns-clause-answer : goal.returns-clause-answer
returns-clause-answer c =
    let o = outcome (goal.at.returns-clause-answer c).After-admit-answer in
    ap decoded (c.answered.ensures.number ∙ ap (λ o. code_of (as_verdict o.answer)) o) ∙ decoded_back _ (admit_coded _ _ _ _ _ _).0

pub returns-clause-record : goal.returns-clause-record
returns-clause-record c = rw (← outcome (goal.at.returns-clause-record c).After-admit-answer) c.answered.ensures.numbers

pub returns-clause-words : goal.returns-clause-words
returns-clause-words c = rw (← c.frame_in-frame.ensures) c.admit-answer.ensures.words

pub returns-clause-served : goal.returns-clause-served
returns-clause-served c =
    let at = (goal.at.returns-clause-served c).After-admit-answer in
    let coded = subst (λ o. Coded o.answer) (sym (outcome at)) (admit_coded _ _ _ _ _ _) in
    rw c.answered.ensures.number (served_read (left at) _ _ _ _ c.answered.ensures.read coded c.admit-answer.ensures.served)
