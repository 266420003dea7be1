-- The verdict on two files, which pairs are accepted, and the loop over the nodes; `Refinement` is for private contracts alone.
pub mod Verdicts
pub mod Acceptance
pub mod Nodes
pub mod Refinement
