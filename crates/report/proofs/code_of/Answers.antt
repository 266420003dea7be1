-- Each arm is the definition's case; a bit adds 0 for its kind.
use native.Mathlib.Omega.{arith}
use Rattle.report.specs.Code.{place_kind, index_of, code_of}
use Rattle.report.proofs.code_of.Goals as goal

pub returns-in-Ok : goal.returns-in-Ok
unfolding code_of
returns-in-Ok c = rw c.in-Ok.is

pub returns-in-Bit : goal.returns-in-Bit
unfolding code_of place_kind index_of
returns-in-Bit c = rw (c.in-Err.is, c.in-Bit.is) (omega arith)

pub returns-in-Node : goal.returns-in-Node
unfolding code_of place_kind index_of
returns-in-Node c = rw (c.in-Err.is, c.in-Node.is)
