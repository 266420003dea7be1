-- Entry s, masked to the states below n, if s is one of them.
use native.Mathlib.Omega.{arith}
use mathlib.Core.Path.{◌∙◌, sym, ap₂}
use mathlib.Core.Bool.{◌&&◌}
use Rattle.states.proofs.Search.{not_true_false}
use Rattle.states.proofs.Rows.{rel_between, rel_row}
use Rattle.states.proofs.relations.row.Goals as goal

pub returns-then-s-n : goal.returns-then-s-n
returns-then-s-n c t = let a = c.args in
    c.meet.ensures t ∙ ap₂ ◌&&◌ (c.entry_at.ensures t) (c.below.ensures t)
    ∙ rel_row a.n a.rows.now a.s t c.if-s-n.true

pub returns-else-s-n : goal.returns-else-s-n
returns-else-s-n c t = let a = c.args in
    c.empty.ensures t ∙ sym (not_true_false _ (λ e. omega (arith, (rel_between a.n a.rows.now a.s t e).0)))
