-- The ends found so far and the rows of the states left are those of all states of the set that have a row.
use Prim.Native.Nat.{ℕ}
use native.Mathlib.Omega.{arith}
use mathlib.Core.Path.{◌≡◌, ◌∙◌, sym, ap}
use mathlib.Core.Bool.{◌&&◌, ◌||◌}
use lib.Dec.{ltb}
use Rattle.states.specs.Sets.{capacity, has}
use Rattle.states.specs.declared.iteration.States.{States}
use Rattle.states.proofs.EntryLaws.{entry_word_lem}
use Rattle.states.proofs.Members.{start_below, gathered_none, gathered_more, gathered_all}
use Rattle.states.proofs.Taking.{taken, none_more}
use Rattle.states.proofs.relations.image.Goals.{After-into_iter-s-iterator}
use Rattle.states.proofs.relations.image.Goals as goal

-- The states to take.
start : (c : After-into_iter-s-iterator) → let a = c.args in
    (s : ℕ) → has c.into_iter-s-iterator.result.rest s ≡ (has a.set s && (ltb s capacity && ltb s c.rows_there-there.result))
start c s =
    ap (λ (i : States). has i.rest s) c.into_iter-s-iterator.ensures.into_iter_gives ∙ ap (λ set. has set s) c.states-s-items.ensures
    ∙ c.meet.ensures s ∙ ap (λ b. has c.args.set s && b) (c.below.ensures s)

pub loop-s-init : goal.loop-s-init
loop-s-init c = gathered_none _ _ _ _ (start_below _ c.args.set _ (start (goal.at.loop-s-init c).After-into_iter-s-iterator)) c.empty-ends.ensures

pub bounds-rows-s : goal.bounds-rows-s
bounds-rows-s c =
    let one = (taken _ _ _ c.in-Some.ensures.steps).taken in
    omega (arith, c.loop-s.invariant.low _ one.there, c.rows_there-there.ensures)

pub loop-s-preserved : goal.loop-s-preserved
unfolding has
loop-s-preserved c =
    gathered_more _ _ _ _ _ _ _ _ (taken _ _ _ c.in-Some.ensures.steps).taken
    (λ t. c.join-ends.ensures t ∙ ap (λ b. has c.loop-s.ends t || b) (sym (entry_word_lem c.args.rows.now _ t)))
    c.loop-s.invariant

pub returns : goal.returns
returns c t =
    let there = c.rows_there-there.ensures in
    gathered_all _ _ _ _ _ there.0 there.2 (start (goal.at.returns c).After-into_iter-s-iterator) _ _ _
    (none_more _ _ c.in-None.ensures.steps) c.loop-s.invariant
    (λ t. c.meet-2.ensures t ∙ ap (λ b. has c.loop-s.ends t && b) (c.below-2.ensures t)) t
