-- The first refusals write nothing; after both checks the table words are cleared.
use mathlib.Core.Bool.{false}
use mathlib.Core.Path.{◌≡◌, sym, ◌∙◌, ap}
use native.Mathlib.Omega.{arith}
use borrow.Author.Rules.{rules}
use Rattle.std.specs.Prelude.{Err}
use Rattle.pair.specs.Limits.{too_long}
use Rattle.joint.specs.Composing.{plain}
use Rattle.joint.proofs.Words.{tables_cleared}
use Rattle.composition.proofs.Promised.{few_words, first_long, second_long, contract, untouched}
use Rattle.composition.proofs.compose.Goals.{After-too_long-2}
use Rattle.composition.proofs.compose.Goals as goal

first_short : (c : After-too_long-2) → let a = c.args in too_long a.h1.now a.p1.now ≡ false
first_short c = sym c.too_long.ensures ∙ c.if-too_long.false

-- Enough words, and no file is too long.
pub compose_checked-answer-requires : goal.compose_checked-answer-requires
compose_checked-answer-requires c = let two = (goal.at.compose_checked-answer-requires c).After-too_long-2 in
    (omega arith, first_short two, sym c.too_long-2.ensures ∙ c.if-too_long-2.false)

pub returns-then-work-lt-WORK_WORDS : goal.returns-then-work-lt-WORK_WORDS
returns-then-work-lt-WORK_WORDS c = let a = c.args in
    let u = untouched a.h1.now a.p1.now a.h2.now a.p2.now a.work.now a.hout.now a.pout.now 0 (plain 1)
    (few_words a.h1.now a.p1.now a.h2.now a.p2.now a.work.now (search rules))
    _ (ap Err c.refusal.ensures)
    in
    record { answer = u.0; words = u.1.0; handler = u.1.1.0; proof = u.1.1.1.0; accepted = u.1.1.1.1 }

pub returns-then-too_long : goal.returns-then-too_long
returns-then-too_long c = let a = c.args in
    let u = untouched a.h1.now a.p1.now a.h2.now a.p2.now a.work.now a.hout.now a.pout.now 1 (plain 2)
    (first_long a.h1.now a.p1.now a.h2.now a.p2.now a.work.now (omega arith) (sym c.too_long.ensures ∙ c.if-too_long.true))
    _ (ap Err c.refusal-then-too_long.ensures)
    in
    record { answer = u.0; words = u.1.0; handler = u.1.1.0; proof = u.1.1.1.0; accepted = u.1.1.1.1 }

pub returns-then-too_long-2 : goal.returns-then-too_long-2
returns-then-too_long-2 c = let two = (goal.at.returns-then-too_long-2 c).After-too_long-2 in
    let a = c.args in
    let long = sym c.too_long-2.ensures ∙ c.if-too_long-2.true in
    let u = untouched a.h1.now a.p1.now a.h2.now a.p2.now a.work.now a.hout.now a.pout.now 2 (plain 2)
    (second_long a.h1.now a.p1.now a.h2.now a.p2.now a.work.now (omega arith) (first_short two) long)
    _ (ap Err c.refusal-then-too_long-2.ensures)
    in
    record { answer = u.0; words = u.1.0; handler = u.1.1.0; proof = u.1.1.1.0; accepted = u.1.1.1.1 }

pub returns : goal.returns
returns c = let two = (goal.at.returns c).After-too_long-2 in
    let a = c.args in
    let j = c.compose_checked-answer.ensures in
    let short' = sym c.too_long-2.ensures ∙ c.if-too_long-2.false in
    let cleared = tables_cleared a.h1.now a.p1.now a.h2.now a.p2.now a.work.now (omega arith) (first_short two) short' in
    let u = contract a.h1.now a.p1.now a.h2.now a.p2.now a.work.now a.hout.now a.pout.now
    _ _ _ _ j.answer (c.clear.ensures ∙ j.words ∙ sym cleared) j.handler j.proof
    in
    record { answer = u.0; words = u.1.0; handler = u.1.1.0; proof = u.1.1.1.0; accepted = u.1.1.1.1 }
