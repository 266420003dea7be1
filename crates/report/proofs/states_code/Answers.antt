-- Accepted or refused.
use Rattle.report.specs.States.{states_of, states_number}
use Rattle.report.proofs.states_code.Goals as goal

pub returns-in-Ok : goal.returns-in-Ok
unfolding states_of states_number
returns-in-Ok c = rw c.in-Ok.is

pub returns-in-Err : goal.returns-in-Err
unfolding states_of
returns-in-Err c = rw c.in-Err.is c.named_code.ensures
