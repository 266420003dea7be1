-- Both pairs are read; other sizes are 90, and the rest is decided over the same variables.
use mathlib.Core.Path.{◌≡◌, sym, ◌∙◌, ap, subst}
use native.Mathlib.Omega.{arith}
use Rattle.std.specs.Prelude.{Err}
use Rattle.semantics.specs.States.{product}
use Rattle.handler.specs.Header.{head_of}
use Rattle.joint.specs.Composing.{Side, side_of, same_sizes, plain}
use Rattle.composition.specs.Refinement.{HandlerOf}
use Rattle.joint.proofs.Sizes.{sizes_same}
use Rattle.composition.proofs.BothPairs.{few_sizes, summary_is, head_is, handler_of, other_sizes, same_variables_lem}
use Rattle.composition.proofs.Leaving.{leaves_same, leaves_refused}
use Rattle.composition.proofs.pairs.compose_accepted.Goals.{After-same_sizes}
use Rattle.composition.proofs.pairs.compose_accepted.Goals as goal

abbrev firstSide : After-same_sizes → Side
firstSide c = let a = c.args in side_of a.h1.now a.p1.now

abbrev secondSide : After-same_sizes → Side
secondSide c = let a = c.args in side_of a.h2.now a.p2.now

-- What the comparison of the heads says.
compared : (c : After-same_sizes) → c.same_sizes.result ≡ same_sizes (firstSide c).sizes (secondSide c).sizes
compared c =
    let p = c.requires in
    c.same_sizes.ensures _ _ (head_is _ _ p.0 _ c.read_accepted-one.ensures) (head_is _ _ p.1 _ c.read_accepted-two.ensures) (few_sizes _ _ p.0) (few_sizes _ _ p.1)

states : (c : After-same_sizes) → c.read_accepted-one.result.head.states ≡ product (firstSide c).sizes
unfolding head_of
states c = ap (λ f. f.states) (head_is _ _ c.requires.0 _ c.read_accepted-one.ensures)

pub overflow_add-both : goal.overflow_add-both
overflow_add-both c = omega (arith, c.ranges)

pub overflow_add-both-then-same_sizes : goal.overflow_add-both-then-same_sizes
overflow_add-both-then-same_sizes c = omega (arith, c.ranges)

pub compose_sides-requires : goal.compose_sides-requires
compose_sides-requires c = let d = (goal.at.compose_sides-requires c).After-same_sizes in
    let p = c.requires in
    let n = states d in
    let same = sizes_same _ _ (sym (compared d) ∙ c.if-same_sizes.true) in
    record {
      first = p.0;
      second = p.1;
      first_states = n;
      second_states = n ∙ ap product same;
      first_handler = subst (HandlerOf _) (sym (summary_is _ _ p.0 _ c.read_accepted-one.ensures)) (handler_of _ _ p.0);
      second_handler = subst (HandlerOf _) (sym (summary_is _ _ p.1 _ c.read_accepted-two.ensures)) (handler_of _ _ p.1);
    }

pub returns-then-same_sizes : goal.returns-then-same_sizes
returns-then-same_sizes c = let d = (goal.at.returns-then-same_sizes c).After-same_sizes in
    let a = c.args in
    let j = c.compose_sides.ensures in
    let left = leaves_same a.hout.now a.pout.now _ _
    (same_variables_lem a.h1.now a.h2.now (firstSide d) (secondSide d) _ _ (states d) (sym (compared d) ∙ c.if-same_sizes.true))
    _ _ _ (j.answer, (j.handler, j.proof))
    in
    record { answer = left.0; handler = left.1.0; proof = left.1.1 }

pub returns-else-same_sizes : goal.returns-else-same_sizes
returns-else-same_sizes c = let d = (goal.at.returns-else-same_sizes c).After-same_sizes in
    let a = c.args in
    let left = leaves_refused a.hout.now a.pout.now _ 0 (plain 90)
    (other_sizes a.h1.now a.h2.now (firstSide d) (secondSide d) _ (sym (compared d) ∙ c.if-same_sizes.false)) _ (ap Err c.refusal.ensures)
    in
    record { answer = left.0; handler = left.1.0; proof = left.1.1 }
