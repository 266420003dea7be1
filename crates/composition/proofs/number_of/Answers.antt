-- Each arm is the definition's case; the parts are small, so no number wraps.
use mathlib.Core.Path.{subst}
use native.Mathlib.Omega.{arith}
use Rattle.std.specs.Prelude.{Ok, Err}
use Rattle.composition.specs.Coding.{number_of}
use Rattle.composition.specs.Refinement.{Small}
use Rattle.composition.proofs.Decoding.{fault_below}
use Rattle.composition.proofs.number_of.Goals.{After-struct_known-in-Ok-2-1, In-Err}
use Rattle.composition.proofs.number_of.Goals as goal

-- The parts of what was made, and of a refusal.
made_small : (c : After-struct_known-in-Ok-2-1) → Small (Ok c.in-Ok.made)
made_small c = subst Small c.in-Ok.is c.requires

refused_small : (c : In-Err) → Small (Err c.in-Err.turned)
refused_small c = subst Small c.in-Err.is c.requires

pub overflow_cast-result-in-Ok-2 : goal.overflow_cast-result-in-Ok-2
unfolding number_of
overflow_cast-result-in-Ok-2 c = omega (arith, (made_small c).2)

pub overflow_mul-result-in-Ok : goal.overflow_mul-result-in-Ok
unfolding number_of
overflow_mul-result-in-Ok c = omega (arith, (made_small c).0, (made_small c).1, (made_small c).2)

pub overflow_mul-result-in-Err : goal.overflow_mul-result-in-Err
unfolding number_of
overflow_mul-result-in-Err c = omega (arith, (refused_small (goal.at.overflow_mul-result-in-Err c).In-Err).0)

pub overflow_add-result-in-Err : goal.overflow_add-result-in-Err
unfolding number_of
overflow_add-result-in-Err c = omega (arith, (refused_small (goal.at.overflow_add-result-in-Err c).In-Err).0)

pub overflow_add-result-in-Err-2 : goal.overflow_add-result-in-Err-2
unfolding number_of
overflow_add-result-in-Err-2 c = let s = refused_small (goal.at.overflow_add-result-in-Err-2 c).In-Err in
    omega (arith, s.0, c.code_of.ensures, fault_below c.in-Err.turned.fault s.2)

pub returns-in-Ok : goal.returns-in-Ok
unfolding number_of
returns-in-Ok c = rw c.in-Ok.is

pub returns-in-Err : goal.returns-in-Err
unfolding number_of
returns-in-Err c = rw (c.in-Err.is, c.code_of.ensures)
