-- After the rows below s, the set has the states below s that start a pair. `any_more` adds the next; a state past the rows starts none.
use native.Mathlib.Omega.{arith}
use mathlib.Core.Path.{◌≡◌, ◌∙◌, sym, ap, ap₂}
use mathlib.Core.Bool.{◌&&◌, ◌||◌}
use lib.Dec.{ltb, eqb}
use Rattle.states.specs.Search.{any}
use Rattle.states.specs.Sets.{capacity, has}
use Rattle.states.specs.Relations.{rel}
use Rattle.states.proofs.Search.{any_more, any_done, any_cong}
use Rattle.states.proofs.EntryLaws.{entry_word_lem}
use Rattle.states.proofs.Rows.{rel_row, row_any, row_starts}
use Rattle.states.proofs.relations.starting.Goals.{After-meet}
use Rattle.states.proofs.relations.starting.Goals as goal

-- The row of s, masked to the n states, has a member iff s starts a pair.
row_ends : (c : After-meet) → let l = c.before in let a = l.args in
    any capacity (λ u. has c.meet.result u) ≡ any a.n (rel a.n a.rows.now l.loop-s.s)
unfolding has
row_ends c =
    let l = c.before in
    let a = l.args in
    any_cong capacity _ _ (λ u k. c.meet.ensures u ∙ ap₂ ◌&&◌ (sym (entry_word_lem a.rows.now l.loop-s.s u)) (l.below-states.ensures u)
    ∙ rel_row a.n a.rows.now l.loop-s.s u (omega arith)) ∙ row_any a.n a.rows.now l.loop-s.s

pub loop-s-init : goal.loop-s-init
unfolding any
loop-s-init c = (omega arith, c.empty-found.ensures)

pub loop-s-preserved : goal.loop-s-preserved
loop-s-preserved c = let l = c.loop-s in (
  omega arith,
  λ t. c.with_start-found.ensures t ∙ ap₂ ◌||◌ (l.invariant.1 t) (ap (λ b. ltb t capacity && b && eqb l.s t) (row_ends (goal.at.loop-s-preserved c).After-meet)) ∙ sym
      (any_more _ _),
)

pub returns : goal.returns
returns c t = let l = c.before in
    l.loop-s.invariant.1 t ∙ any_done _ _ _ l.loop-s.invariant.0 c.loop-s-test.false ∙ row_starts _ _ _ l.rows_there-s-end.ensures.2 t
