-- What the loop finds and the step number decide the verdict (`judged`).
use mathlib.Core.Path.{◌≡◌, sym, ◌∙◌, ap}
use Rattle.std.proofs.Common.{rules}
use Rattle.std.specs.Prelude.{Err}
use Rattle.checker.specs.Refinement.{decided}
use Rattle.checker.proofs.Judging.{judged}
use Rattle.checker.proofs.decide.Goals as goal

pub returns-in_err-first_fault : goal.returns-in_err-first_fault
returns-in_err-first_fault c l =
    let passed : c.from_residual.result ≡ Err c.in_err-first_fault.field-0.0 = search rules in
    passed ∙ ap (λ o. decided o c.args.read.handler.steps) (sym c.in_err-first_fault.was ∙ c.first_fault.ensures) ∙ judged l

pub returns : goal.returns
returns c l =
    c.within_limit.ensures ∙ ap (λ o. decided o c.args.read.handler.steps) (sym c.in_ok-first_fault.was ∙ c.first_fault.ensures) ∙ judged l
