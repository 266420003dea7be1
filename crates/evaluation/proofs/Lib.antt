-- Laws about values that the proofs here and those of callers cite; each function's proof is in its own folder.
pub mod Sizes
pub mod Integers
pub mod Walking
pub mod Laws
pub mod Runs
pub mod Cases
