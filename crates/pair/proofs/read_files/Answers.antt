-- By cases of the lengths and of what reading the handler file found.
use mathlib.Core.Bool.{false}
use borrow.Author.Rules.{rules}
use Rattle.std.specs.Prelude.{Err}
use Rattle.pair.specs.declared.PairFault.TheVariants.{At}
use mathlib.Core.Path.{◌≡◌, sym, ◌∙◌, ap}
use Rattle.handler.specs.Reading.{read_handler}
use Rattle.handler.specs.Shapes.{terms_after}
use Rattle.pair.specs.Limits.{too_long}
use Rattle.pair.specs.Reading.{read_pair, pair_file, terms_read}
use Rattle.pair.proofs.Found.{on_file, kept}
use Rattle.pair.proofs.read_files.Goals.{After-read_handler}
use Rattle.pair.proofs.read_files.Goals as goal

-- Where no file is too long.
short : (r : After-read_handler) → let a = r.args in too_long a.handler.now a.proof.now ≡ false
short r = sym r.too_long.ensures ∙ r.if-too_long.false

both : (r : After-read_handler) → let a = r.args in
    on_file a.proof.now r.read_handler.result ≡ pair_file (read_pair a.handler.now a.proof.now)
unfolding read_pair
both r = ap (on_file r.args.proof.now) r.read_handler.ensures.file ∙ rw (short r) (sym (kept _ (read_handler r.args.handler.now)))

terms : (r : After-read_handler) → let a = r.args in
    terms_after (read_handler a.handler.now) a.exprs.now ≡ terms_read a.handler.now a.proof.now a.exprs.now
unfolding terms_read
terms r = rw (short r)

pub returns-then-too_long-clause-file : goal.returns-then-too_long-clause-file
unfolding read_pair pair_file
returns-then-too_long-clause-file c = rw (sym c.too_long.ensures ∙ c.if-too_long.true)

pub returns-then-too_long-clause-terms : goal.returns-then-too_long-clause-terms
unfolding terms_read
returns-then-too_long-clause-terms c = rw (sym c.too_long.ensures ∙ c.if-too_long.true)

pub returns-in_err-file-clause-file : goal.returns-in_err-file-clause-file
returns-in_err-file-clause-file c =
    let e : c.from_residual.result ≡ Err (At c.in_err-file.field-0.0) = search rules in
    e ∙ ap (on_file c.args.proof.now) (sym c.in_err-file.was) ∙ both (goal.at.returns-in_err-file-clause-file c).After-read_handler

pub returns-in_err-file-clause-terms : goal.returns-in_err-file-clause-terms
returns-in_err-file-clause-terms c = c.read_handler.ensures.terms ∙ terms (goal.at.returns-in_err-file-clause-terms c).After-read_handler

pub returns-clause-file : goal.returns-clause-file
returns-clause-file c =
    c.read_over.ensures ∙ ap (on_file c.args.proof.now) (sym c.in_ok-file.was) ∙ both (goal.at.returns-clause-file c).After-read_handler

pub returns-clause-terms : goal.returns-clause-terms
returns-clause-terms c = c.read_handler.ensures.terms ∙ terms (goal.at.returns-clause-terms c).After-read_handler
