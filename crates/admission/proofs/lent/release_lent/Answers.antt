-- The call is made with the record that the numbers hold; if it is done, these are 50.
use mathlib.Core.Path.{◌≡◌, sym, ◌∙◌, ap}
use Rattle.report.specs.Code.{code_of, decoded}
use Rattle.report.proofs.Decoding.{decoded_back}
use Rattle.std.specs.Prelude.{is_ok}
use Rattle.frame.specs.Calls.{as_verdict, released}
use Rattle.frame.specs.Lent.{frame_in}
use Rattle.frame.proofs.Outcomes.{released_well, well_whole}
use Rattle.admission.proofs.Decoding.{released_coded}
use Rattle.admission.proofs.lent.release_lent.Goals.{After-release-answer}
use Rattle.admission.proofs.lent.release_lent.Goals as goal

outcome : (c : After-release-answer) → record { frame = c.release-answer.new.frame; answer = c.release-answer.result } ≡ released (frame_in c.args.numbers.now) c.args.place
outcome c = rw (← c.frame_in-frame.ensures) c.release-answer.ensures

pub answered-requires : goal.answered-requires
answered-requires c done =
    well_whole _ (released_well _ _ (sym (ap (λ o. is_ok o.answer) (outcome (goal.at.answered-requires c).After-release-answer)) ∙ done))

pub returns-clause-number : goal.returns-clause-number
returns-clause-number c =
    c.answered.ensures.number ∙ ap (λ o. code_of (as_verdict o.answer)) (outcome (goal.at.returns-clause-number c).After-release-answer)

pub returns-clause-answer : goal.returns-clause-answer
returns-clause-answer c =
    let o = outcome (goal.at.returns-clause-answer c).After-release-answer in
    ap decoded (c.answered.ensures.number ∙ ap (λ o. code_of (as_verdict o.answer)) o) ∙ decoded_back _ (released_coded _ _).0

pub returns-clause-record : goal.returns-clause-record
returns-clause-record c = rw (← outcome (goal.at.returns-clause-record c).After-release-answer) c.answered.ensures.numbers
