-- A row, joined with s alone, met with the set.
use mathlib.Core.Path.{◌∙◌, ap}
use mathlib.Core.Bool.{◌&&◌}
use borrow.Author.Tests.{lt-ltb}
use Rattle.states.specs.Sets.{capacity, has}
use Rattle.rules.proofs.iteration.exits.Goals as goal

pub returns : goal.returns
returns c s t low l = let a = c.args in
    let joined = rw (lt-ltb s capacity low, lt-ltb s a.n l) at (c.with_same-rounds.ensures s t) in
    rw (lt-ltb s capacity low) at (c.ending_in.ensures s t) ∙ ap (λ b. b && has a.into t) joined
