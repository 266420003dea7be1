-- The values of the expressions of a handler file, and where stores lead.
pub mod Values
pub mod Refinement
