-- The verdict decides what the work words hold: the tables, or 0.
use mathlib.Core.Path.{sym, ◌∙◌, ap}
use Rattle.std.proofs.Common.{rules}
use Rattle.derivation.specs.Tables.{written}
use Rattle.derivation.proofs.Buffers.{written_again}
use Rattle.checker.proofs.Judging.{no_words}
use Rattle.checker.proofs.check_read.Goals as goal

pub returns-then-is_err-clause-words : goal.returns-then-is_err-clause-words
returns-then-is_err-clause-words c l =
    c.clear.ensures ∙ ap (written (λ j. 0)) l.words ∙ written_again (λ j. 0) _ l.before
    ∙ ap (λ f. written f l.before) (sym (no_words l _ (search rules) (c.decide-verdict.ensures l)))
