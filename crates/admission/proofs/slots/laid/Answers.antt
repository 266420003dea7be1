-- Each range is a part of the definition.
use mathlib.Core.Path.{sym, ap, ◌∙◌}
use borrow.Author.Rules.{rules}
use Rattle.frame.specs.Slots.{held, total, laid_within}
use Rattle.admission.specs.Refinement.{laid_found}
use Rattle.admission.proofs.Looking.{ill_length, ill_count, by_slots}
use Rattle.admission.proofs.slots.laid.Goals as goal

pub returns-then-frame : goal.returns-then-frame
returns-then-frame c =
    let f = c.args.frame.now in
    ap (λ b. laid_found b (total (held f))) (sym (ill_length f c.if-frame.true))

pub returns-then-frame-2 : goal.returns-then-frame-2
returns-then-frame-2 c =
    let f = c.args.frame.now in
    ap (λ b. laid_found b (total (held f))) (sym (ill_count f c.if-frame-2.true))

pub returns : goal.returns
returns c =
    let f = c.args.frame.now in
    c.laid_slots.ensures ∙ ap (λ slots. laid_found (laid_within f.length 0 slots) (total slots)) c.held.ensures ∙ ap (λ b. laid_found b (total (held f))) (sym (by_slots f c.if-frame.false (search rules)))
