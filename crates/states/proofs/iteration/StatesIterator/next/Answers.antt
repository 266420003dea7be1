-- While a state is left, the least is taken, and fewer are left.
use mathlib.Core.Path.{ap, ◌∙◌}
use mathlib.Core.Bool.{not}
use Rattle.states.specs.Taking.{first_where}
use Rattle.states.proofs.Search.{turned}
use Rattle.states.proofs.Members.{LeastTaken, take_least, none_in}
use Rattle.states.proofs.iteration.StatesIterator.next.Goals.{After-without_least-self}
use Rattle.states.proofs.iteration.StatesIterator.next.Goals as goal

some_left : (c : After-without_least-self) → LeastTaken c.args.self.now.rest c.without_least-self.result c.least-first.result
some_left c =
    take_least _ _ c.is_empty.ensures (ap not c.if-is_empty.false) _ c.least-first.ensures _ c.without_least-self.ensures

pub returns-then-is_empty-clause-steps : goal.returns-then-is_empty-clause-steps
unfolding first_where
returns-then-is_empty-clause-steps c =
    let none = turned _ _ c.is_empty.ensures ∙ ap not c.if-is_empty.true in
    record { least = rw none; left = λ s. rw (none_in _ _ c.is_empty.ensures c.if-is_empty.true s) }

pub returns-clause-steps : goal.returns-clause-steps
unfolding first_where
returns-clause-steps c =
    let some = turned _ _ c.is_empty.ensures ∙ ap not c.if-is_empty.false in
    record { least = rw (some, c.least-first.ensures); left = c.without_least-self.ensures }

pub returns-clause-goes : goal.returns-clause-goes
returns-clause-goes c =
    let fewer = (some_left (goal.at.returns-clause-goes c).After-without_least-self).less in
    record { on = λ _. (tt, tt, fewer); keeps = tt; rests = λ _. tt }
