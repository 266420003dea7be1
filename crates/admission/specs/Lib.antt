-- What the private functions ensure; the definitions of the public contracts are in the crate `frame`.
pub mod Refinement
