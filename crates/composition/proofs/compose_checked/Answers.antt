-- By cases of both verdicts.
use mathlib.Core.Path.{◌≡◌, refl, sym, ◌∙◌, ap}
use native.Mathlib.Omega.{arith}
use borrow.Author.Rules.{rules}
use Rattle.std.specs.Prelude.{Ok, Err}
use Rattle.checker.specs.declared.Fault.{Fault}
use Rattle.composition.specs.Answers.{turned}
use lib.ListN.{length}
use Rattle.derivation.specs.Tables.{written}
use Rattle.pair.specs.Modes.{rows}
use Rattle.checker.specs.Verdicts.{answer}
use Rattle.composition.proofs.Checked.{first_refuses, second_refuses, both_accept, cleared_after}
use Rattle.composition.proofs.Leaving.{leaves_same, leaves_refused}
use Rattle.composition.proofs.compose_checked.Goals.{After-check, After-check-2}
use Rattle.composition.proofs.compose_checked.Goals as goal

-- The first verdict, and the work words after the first check.
first_is : (c : After-check) → let a = c.args in c.check.result ≡ (answer a.h1.now a.p1.now rows (length a.work.now)).verdict
first_is c =
    let a = c.args in c.check.ensures.verdict ∙ ap (λ m. (answer a.h1.now a.p1.now m (length a.work.now)).verdict) c.rows-mode.ensures

first_words : (c : After-check) → written (λ j. 0) c.check.new.work ≡ written (λ j. 0) c.args.work.now
first_words c = ap (written (λ j. 0)) c.check.ensures.words ∙ cleared_after _ _ _ _

-- The second.
second_is : (c : After-check-2) → let a = c.args in c.check-2.result ≡ (answer a.h2.now a.p2.now rows (length a.work.now)).verdict
second_is c =
    let a = c.args in
    let lent : length c.check.new.work ≡ length a.work.now = omega (arith, c.check.auto.work) in
    c.check-2.ensures.verdict
    ∙ (λ i. (answer a.h2.now a.p2.now (c.rows-mode.ensures i) (lent i)).verdict)

second_words : (c : After-check-2) → written (λ j. 0) c.check-2.new.work ≡ written (λ j. 0) c.check.new.work
second_words c = ap (written (λ j. 0)) c.check-2.ensures.words ∙ cleared_after _ _ _ _

-- What an exit of `?` says.
turned_first : (c : goal.After-from_residual) → (fault : Fault) × (c.check.result ≡ Err fault) × (c.from_residual.result ≡ Err (turned 1 fault))
turned_first c = search rules

turned_second : (c : goal.After-from_residual-in_err-more) → (fault : Fault) × (c.check-2.result ≡ Err fault)
    × (c.from_residual-in_err-more.result ≡ Err (turned 2 fault))
turned_second c = search rules

pub compose_accepted-requires : goal.compose_accepted-requires
compose_accepted-requires c =
    let g = goal.at.compose_accepted-requires c in
    let one : c.check.result ≡ Ok c.in_ok-steps.steps = search rules in
    let two : c.check-2.result ≡ Ok c.in_ok-more.more = search rules in (
      record { words = _; steps = _; accepted = sym (first_is g.After-check) ∙ one },
      record { words = _; steps = _; accepted = sym (second_is g.After-check-2) ∙ two },
    )

pub returns-in_err-steps : goal.returns-in_err-steps
returns-in_err-steps c =
    let a = c.args in
    let p = c.requires in
    let one = (goal.at.returns-in_err-steps c).After-check in
    let why = turned_first c in
    let e = first_refuses a.h1.now a.p1.now a.h2.now a.p2.now (length a.work.now) p.0 p.1 p.2 _ (sym (first_is one) ∙ why.1) in
    let left = leaves_refused a.hout.now a.pout.now _ 1 _ e _ why.2 in
    record { answer = left.0; words = first_words one; handler = left.1.0; proof = left.1.1 }

pub returns-in_err-more : goal.returns-in_err-more
returns-in_err-more c =
    let a = c.args in
    let p = c.requires in
    let one = (goal.at.returns-in_err-more c).After-check in
    let two = (goal.at.returns-in_err-more c).After-check-2 in
    let passed : c.check.result ≡ Ok c.in_ok-steps.steps = search rules in
    let why = turned_second c in
    let e = second_refuses a.h1.now a.p1.now a.h2.now a.p2.now (length a.work.now) p.0 p.1 p.2 _ _
    (sym (first_is one) ∙ passed) (sym (second_is two) ∙ why.1)
    in
    let left = leaves_refused a.hout.now a.pout.now _ 2 _ e _ why.2 in
    record { answer = left.0; words = second_words two ∙ first_words one; handler = left.1.0; proof = left.1.1 }

pub returns : goal.returns
returns c =
    let a = c.args in
    let p = c.requires in
    let one = (goal.at.returns c).After-check in
    let two = (goal.at.returns c).After-check-2 in
    let first : c.check.result ≡ Ok c.in_ok-steps.steps = search rules in
    let second : c.check-2.result ≡ Ok c.in_ok-more.more = search rules in
    let e = both_accept a.h1.now a.p1.now a.h2.now a.p2.now (length a.work.now) p.0 p.1 p.2 _ _
    (sym (first_is one) ∙ first) (sym (second_is two) ∙ second)
    in
    let so = c.compose_accepted.ensures in
    let left = leaves_same a.hout.now a.pout.now _ _ e _ _ _ (so.answer, (so.handler, so.proof)) in
    record { answer = left.0; words = second_words two ∙ first_words one; handler = left.1.0; proof = left.1.1 }
