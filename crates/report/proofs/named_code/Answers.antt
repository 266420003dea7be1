-- Each arm is the definition's case.
use native.Mathlib.Omega.{arith}
use Rattle.search.specs.Named.{listed}
use Rattle.report.specs.States.{states_number}
use Rattle.report.proofs.named_code.Goals as goal

pub returns-in-Nothing : goal.returns-in-Nothing
unfolding listed states_number
returns-in-Nothing c = rw c.in-Nothing.is

pub returns-in-One : goal.returns-in-One
unfolding listed states_number
returns-in-One c = rw c.in-One.is (omega arith)

pub returns-in-Two : goal.returns-in-Two
unfolding listed states_number
returns-in-Two c = rw c.in-Two.is (omega arith)

pub returns-in-Three : goal.returns-in-Three
unfolding listed states_number
returns-in-Three c = rw c.in-Three.is (omega arith)
