-- After a fault nothing is known of the words, and all of them become 0.
use Prim.Native.Nat.{ℕ}
use mathlib.Core.Bool.{true, false, true≢false}
use mathlib.Core.List.{List}
use mathlib.Core.Path.{◌≡◌, sym, ap, ◌∙◌}
use lib.ListN.{length, replicate}
use Rattle.std.specs.Prelude.{is_err}
use Rattle.handler.specs.Reading.{HandlerRead, handler, refused}
use Rattle.handler.specs.Shapes.{handler_file, terms_after}
use Rattle.handler.specs.Refinement.{NodesStored}
use Rattle.handler.proofs.reading.read_handler.Goals as goal

cleared : (r : HandlerRead) (entry exit : List ℕ) → is_err (handler_file r) ≡ true → exit ≡ replicate (length entry) 0 → exit ≡ terms_after r entry
unfolding handler_file terms_after
cleared (handler sizes at S) entry exit e p = absurd (true≢false (sym e))
cleared (refused k place) entry exit e p = p

kept : (r : HandlerRead) (entry exit : List ℕ) → is_err (handler_file r) ≡ false → NodesStored entry exit r → exit ≡ terms_after r entry
unfolding handler_file terms_after
kept (handler sizes at S) entry exit e p = p
kept (refused k place) entry exit e p = absurd (true≢false e)

pub returns-then-is_err-clause-terms : goal.returns-then-is_err-clause-terms
returns-then-is_err-clause-terms c =
    cleared _ _ _ (ap is_err (sym c.read_file-file.ensures.file) ∙ sym c.is_err.ensures.value ∙ c.if-is_err.true)
    (c.fill.ensures.after (λ y same. same) ∙ ap (λ n. replicate n 0) c.read_file-file.auto.exprs)

pub returns-else-is_err-clause-terms : goal.returns-else-is_err-clause-terms
returns-else-is_err-clause-terms c =
    kept _ _ _ (ap is_err (sym c.read_file-file.ensures.file) ∙ sym c.is_err.ensures.value ∙ c.if-is_err.false) c.read_file-file.ensures.nodes
