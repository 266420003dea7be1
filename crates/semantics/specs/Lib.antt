-- What handlers mean, in the order of docs/RULES.md: the language, states and steps, runs, the step number, derivations with
-- the conditions on their nodes, and what an accepted derivation promises.
pub mod Language
pub mod States
pub mod Steps
pub mod Runs
pub mod StepNumber
pub mod Derivations
pub mod Conditions
pub mod Checking
pub mod Facts
pub mod Promise
