-- Before the run at `from`, the set holds the states below `from` that have the value. The weight and the size are at most the
-- capacity, so every number is small.
use Prim.Native.Nat.{◌+◌, ◌*◌, ◌≤◌, ◌<◌}
use native.Mathlib.Nat.{mul-le-mul, mul-pos}
use native.Mathlib.Omega.{arith}
use Rattle.states.specs.Sets.{capacity}
use Rattle.evaluation.proofs.Runs.{first_run, next_run, no_run, one_run, all_runs}
use Rattle.evaluation.proofs.pointwise.states_with.Goals.{Start, else-loop-from-test, then-loop-from-test+else-from-step-n}
use Rattle.evaluation.proofs.pointwise.states_with.Goals as goal

-- The period is not 0 and at most the square of the capacity.
period : (c : Start) → let a = c.args in (0 < a.weight * a.size) × (a.weight * a.size ≤ capacity * capacity)
period c = (mul-pos c.requires.1 (omega arith), mul-le-mul {n₂ = capacity} {m₂ = capacity} c.requires.2 c.requires.3)

pub loop-from-init : goal.loop-from-init
loop-from-init c = let p = c.requires in
    (first_run _ _ _ p.1 p.4, no_run _ _ _ p.1 p.4 _ c.empty-found.ensures)

pub loop-from-preserved : goal.loop-from-preserved
loop-from-preserved c = let p = c.requires in
    let run = c.loop-from.invariant in
    (next_run _ _ _ p.1 p.4 run.0, one_run _ _ _ p.1 p.4 _ run.0 _ _ c.with_run-found.ensures run.1)

pub returns : goal.returns
returns c =
    let p = c.requires in
    let run = c.loop-from.invariant in
    elim c.loop-from-test.branch [
      | else-loop-from-test w ↦
          all_runs _ _ _ p.1 p.4 _ _ p.0 w.loop-from-test.false c.loop-from-test.found _ _ (rw w.found-is run.1) c.below.ensures c.meet.ensures
      | then-loop-from-test+else-from-step-n w ↦
          let past : c.args.n ≤ c.loop-from.from + c.args.weight * c.args.size = omega arith in
          all_runs _ _ _ p.1 p.4 _ _ p.0 past c.loop-from-test.found _ _
          (rw w.found-is (one_run _ _ _ p.1 p.4 _ run.0 _ _ w.with_run-found.ensures run.1)) c.below.ensures c.meet.ensures
    ]
