-- The composition of two pairs: the joined derivation, the two files, and what is turned away.
pub mod Joining
pub mod Composing
