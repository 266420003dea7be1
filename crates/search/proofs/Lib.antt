-- What a search for a breach finds, and the laws that the conditions cite.
pub mod Breaches
