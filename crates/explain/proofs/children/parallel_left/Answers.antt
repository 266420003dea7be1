-- Each comparison is the one that the condition names.
use mathlib.Core.Bool.{and-true}
use Rattle.std.proofs.Common.{sym, ◌∙◌}
use Rattle.states.proofs.Search.{holds_must}
use Rattle.semantics.specs.Conditions.{c36}
use Rattle.explain.specs.Children.{left_of_parallel}
use Rattle.explain.proofs.children.parallel_left.Goals as goal

pub returns : goal.returns
unfolding c36 left_of_parallel
returns c = rw (c.same_pre.ensures, c.is_join.ensures ∙ sym (holds_must _), and-true)
