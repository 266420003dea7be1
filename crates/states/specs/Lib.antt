-- The definitions that the contracts of sets and relations of states cite.
pub mod Search
pub mod Sets
pub mod Relations
pub mod Taking
