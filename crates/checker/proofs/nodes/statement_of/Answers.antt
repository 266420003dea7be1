-- After i rounds s is the statement at hand for node i, and no more than i.
use mathlib.Core.Path.{◌≡◌, refl, ◌∙◌, ap}
use native.Mathlib.Nat.{le_trans}
use native.Mathlib.Numerals.{add-one}
use native.Mathlib.Omega.{arith}
use Rattle.checker.specs.Nodes.{statement_at}
use Rattle.checker.proofs.Rounds.{after_least}
use Rattle.checker.proofs.nodes.statement_of.Goals as goal

pub loop-i-init : goal.loop-i-init
unfolding statement_at
loop-i-init c = (omega arith, omega arith, refl)

pub loop-i-preserved : goal.loop-i-preserved
unfolding statement_at
loop-i-preserved c =
    let l = c.loop-i in
    let next = c.statement_after-s.ensures in (
      omega arith,
      rw next (le_trans (after_least _ l.s) (omega arith)),
      rw (add-one, ← l.invariant.2) next,
    )

pub returns : goal.returns
returns c =
    let l = c.loop-i in
    let all : l.i ≡ c.args.node = omega arith in
    l.invariant.2 ∙ ap (statement_at c.args.nodes.now) all
