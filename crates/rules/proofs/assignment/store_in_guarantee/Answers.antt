-- 43 at each state of P.
use Rattle.std.proofs.Common.{rules}
use mathlib.Core.Path.{◌∙◌, sym}
use Rattle.rules.proofs.Searches.{search_of_states}
use Rattle.rules.proofs.Words.{set_small}
use Rattle.rules.proofs.assignment.store_in_guarantee.Goals as goal

pub returns : goal.returns
returns c =
    let a = c.args in
    search_of_states _ _ _ c.set_at.result _ _ _ c.states.ensures (λ s e. (set_small a.n a.work.now a.own.p s (sym (c.set_at.ensures s) ∙ e)).1)
    (λ s l. c.set_at.ensures s) c.all.ensures.ran (λ x b q k. search rules)
