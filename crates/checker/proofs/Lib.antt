-- What the loop finds, which pairs are accepted, and what acceptance promises of the bytes.
pub mod Stages
pub mod Rounds
pub mod Loaded
pub mod AtHand
pub mod Meaning
pub mod Judging
pub mod Acceptance
pub mod FormerOrder
pub mod Promised
pub mod Bounds
pub mod Names
