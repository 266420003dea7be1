-- The answer of a call, also as one number; what is made and what is turned away is in `joint`. `Refinement` is for private contracts alone.
pub mod Answers
pub mod Coding
pub mod Refinement
