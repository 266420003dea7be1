-- Each comparison is the one that the condition names.
use mathlib.Core.Bool.{and-true}
use Rattle.std.proofs.Common.{sym, ◌∙◌}
use Rattle.states.proofs.Search.{holds_must}
use Rattle.semantics.specs.Conditions.{c36, c37}
use Rattle.explain.specs.Children.{left_of_sequence}
use Rattle.explain.proofs.children.sequence_left.Goals as goal

pub returns : goal.returns
unfolding c36 c37 left_of_sequence
returns c =
    rw (
      c.same_pre.ensures,
      c.same_relation.ensures ∙ sym (holds_must _),
      c.same_relation-2.ensures ∙ sym (holds_must _),
      and-true,
    )
