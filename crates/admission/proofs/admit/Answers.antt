-- Each refusal is the first reason that is there; with none, the verdict decides.
use Prim.Native.Nat.{ℕ, ◌*◌, ◌^◌, ◌≤◌, ◌<◌}
use mathlib.Core.Bool.{true, false}
use mathlib.Core.Option.{none}
use mathlib.Core.Path.{◌≡◌, refl, sym, ap, ◌∙◌, subst}
use native.Mathlib.Nat.{mul-le-mul}
use native.Mathlib.Omega.{arith}
use borrow.Author.Rules.{rules}
use borrow.Author.Tests.{lt-ltb, le-ltb}
use lib.Dec.{ltb}
use lib.ListN.{length}
use Rattle.std.specs.Prelude.{Result, Ok, Err, is_some, ok_or}
use Rattle.std.specs.Result.{result_ok}
use Rattle.std.proofs.lemmas.Result.{err_from_is_err_and}
use Rattle.checker.specs.Verdicts as Check
use Rattle.frame.specs.declared.Outcome.{Outcome}
use Rattle.frame.specs.Slots.{held, total, holds, well_formed}
use Rattle.frame.specs.declared.Refusal.{Refusal}
use Rattle.frame.specs.declared.Refusal.TheVariants.{Malformed}
use Rattle.frame.specs.Calls.{Answer, before_check, on_verdict}
use Rattle.frame.proofs.Calls.{no_such_place, taken, malformed, wrong_ticks, reached, Promised, turned, checked}
use Rattle.admission.proofs.Looking.{found_some, found_end}
use Rattle.admission.proofs.admit.Goals.{After-check, After-laid, In_ok-end}
use Rattle.admission.proofs.admit.Goals as goal
use Rattle.checker.specs.Verdicts.{Verdict}

-- What a `?` returns of a result without its value.
turned_away : Result ℕ Refusal → Answer
turned_away (Ok end) = Ok tt
turned_away (Err why) = Err why

-- What is known when the record is looked at: there is the place, and it is free.
there : (c : After-laid) → ltb 15 c.args.place ≡ false
there c = le-ltb _ _ c.if-place-gt-LAST_PLACE.false

free : (c : After-laid) → holds c.args.place (held c.args.frame.now) ≡ false
free c = sym c.is_taken.ensures ∙ c.if-is_taken.false

-- What the look found: the record is well-formed, and where the last slot ends.
found : (c : In_ok-end) → let f = c.args.frame.now in (well_formed f ≡ true) × (c.in_ok-end.end ≡ total (held f))
found c = found_end (well_formed c.args.frame.now) _ _ _ c.laid.ensures (c.ok_or.ensures.ok_part ∙ ap result_ok c.in_ok-end.was)

-- When the check is reached, its verdict alone decides.
none_there : (c : After-check) → let a = c.args in before_check a.frame.now a.place a.ticks ≡ none
none_there c =
    let a = c.args in
    let free = sym c.is_taken.ensures ∙ c.if-is_taken.false in
    let found = found_end (well_formed a.frame.now) _ _ _ c.laid.ensures (c.ok_or.ensures.ok_part ∙ ap result_ok c.in_ok-end.was) in
    reached a.frame.now a.place a.ticks (le-ltb _ _ c.if-place-gt-LAST_PLACE.false) free found.0 c.if-ticks.false

-- The need of any step number and any ticks is a number of 64 bits.
product_fits : {m n : ℕ} → m < 2 ^ 32 → n < 2 ^ 32 → m * n < 2 ^ 64
product_fits {m} {n} few less =
    let most : m * n ≤ 4294967295 * 4294967295 = mul-le-mul {n₂ = 4294967295} {m₂ = 4294967295} (omega arith) (omega arith) in
    omega arith

-- What follows from the verdict is the whole promise.
decided : (q : After-check) (v : Verdict) (o : Outcome) → let a = q.args in q.check.result ≡ v → o ≡ on_verdict a.frame.now a.place a.ticks v
    → Promised a.frame.now a.place a.handler.now a.proof.now a.ticks a.work.now o q.check.new.work
decided q v o is follows =
    let a = q.args in
    let told = q.rows.ensures in
    checked _ _ _ _ _ _ _ _ _ (none_there q)
    (q.check.ensures.verdict ∙ ap (λ m. (Check.answer a.handler.now a.proof.now m (length a.work.now)).verdict) told)
    (q.check.ensures.words ∙ ap (λ m. Check.work_after a.handler.now a.proof.now m a.work.now) told)
    (subst (λ m. Check.AcceptedIsSound a.handler.now a.proof.now m q.check.result) told q.check.ensures.promise)
    (follows ∙ ap (on_verdict a.frame.now a.place a.ticks) (sym is))

pub returns-then-place-gt-LAST_PLACE : goal.returns-then-place-gt-LAST_PLACE
returns-then-place-gt-LAST_PLACE c =
    let a = c.args in
    let p = turned _ _ _ _ _ _ _ _ (no_such_place a.frame.now a.place a.ticks (lt-ltb _ _ c.if-place-gt-LAST_PLACE.true)) refl in
    record { outcome = p.0; words = p.1.0; served = p.1.1 }

pub returns-then-is_taken : goal.returns-then-is_taken
returns-then-is_taken c =
    let a = c.args in
    let there = le-ltb _ _ c.if-place-gt-LAST_PLACE.false in
    let why = taken a.frame.now a.place a.ticks there (sym c.is_taken.ensures ∙ c.if-is_taken.true) in
    let p = turned _ _ _ _ _ _ _ _ why refl in
    record { outcome = p.0; words = p.1.0; served = p.1.1 }

pub returns-in_err-end : goal.returns-in_err-end
unfolding turned_away
returns-in_err-end c =
    let a = c.args in
    let at = (goal.at.returns-in_err-end c).After-laid in
    let none = c.ok_or.ensures.ok_part ∙ ap result_ok c.in_err-end.was in
    let ill = sym (found_some _ _ _ c.laid.ensures) ∙ ap is_some none in
    let given = err_from_is_err_and c.from_residual.result c.from_residual.ensures.1 in
    let is = given.1 ∙ ap Err given.2 ∙ ap turned_away (sym c.in_err-end.was ∙ c.ok_or.ensures.value ∙ ap (λ x. ok_or x Malformed) none) in
    let p = turned _ _ _ _ _ _ _ _ (malformed a.frame.now a.place a.ticks (there at) (free at) ill) (ap (λ (r : Answer). record { frame = a.frame.now; answer = r }) is) in
    record { outcome = p.0; words = p.1.0; served = p.1.1 }

pub returns-then-ticks : goal.returns-then-ticks
returns-then-ticks c =
    let a = c.args in
    let at = (goal.at.returns-then-ticks c).After-laid in
    let well = (found (goal.at.returns-then-ticks c).In_ok-end).0 in
    let p = turned _ _ _ _ _ _ _ _ (wrong_ticks a.frame.now a.place a.ticks (there at) (free at) well c.if-ticks.true) refl in
    record { outcome = p.0; words = p.1.0; served = p.1.1 }

pub overflow_mul-steps : goal.overflow_mul-steps
overflow_mul-steps c =
    let few : c.in-Ok.steps < 2 ^ 32 = search rules in
    let ticks : c.args.ticks < 2 ^ 32 = search rules in
    omega (arith, product_fits few ticks)

pub grant-requires : goal.grant-requires
grant-requires c =
    let known = found (goal.at.grant-requires c).In_ok-end in
    (known.0, free (goal.at.grant-requires c).After-laid, omega (arith, c.if-place-gt-LAST_PLACE.false), known.1)

pub returns-in-Err : goal.returns-in-Err
returns-in-Err c =
    let p = decided (goal.at.returns-in-Err c).After-check _ _ c.in-Err.is refl in
    record { outcome = p.0; words = p.1.0; served = p.1.1 }

pub returns-in-Ok : goal.returns-in-Ok
returns-in-Ok c =
    let p = decided (goal.at.returns-in-Ok c).After-check _ _ c.in-Ok.is c.grant.ensures in
    record { outcome = p.0; words = p.1.0; served = p.1.1 }
