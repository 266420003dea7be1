-- The laws that the proofs of the rules share.
pub mod Searches
pub mod Words
pub mod Rows
pub mod Stores
pub mod Movement
pub mod Asking
pub mod Naming
