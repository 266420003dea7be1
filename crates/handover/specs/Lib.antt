-- The definitions that the contracts of the check program cite.
pub mod Number
pub mod Path
