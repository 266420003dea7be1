-- s is added if its row is not empty.
use mathlib.Core.Path.{◌≡◌, ◌∙◌, sym, ap}
use mathlib.Core.Bool.{not, ◌||◌, or-false, and-true, and-false}
use lib.Dec.{ltb}
use Rattle.states.specs.Search.{any}
use Rattle.states.specs.Sets.{capacity, has}
use Rattle.states.proofs.Search.{turned}
use Rattle.states.proofs.relations.with_start.Goals.{After-is_empty}
use Rattle.states.proofs.relations.with_start.Goals as goal

starts : (c : After-is_empty) → any capacity (λ u. has c.args.row u) ≡ not c.is_empty.result
starts c = turned _ _ c.is_empty.ensures

pub returns-then-is_empty : goal.returns-then-is_empty
returns-then-is_empty c t = rw (starts (goal.at.returns-then-is_empty c).After-is_empty, c.if-is_empty.true, and-false (ltb t capacity)) (sym (or-false _))

pub returns-else-is_empty : goal.returns-else-is_empty
returns-else-is_empty c t = let d = c in
    rw (starts (goal.at.returns-else-is_empty c).After-is_empty, d.if-is_empty.false, and-true (ltb t capacity))
    (c.join.ensures t ∙ ap (λ b. has d.args.found t || b) (c.single.ensures t))
