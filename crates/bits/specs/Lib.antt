-- The definitions that the contracts of the packed reader cite.
pub mod Fields
