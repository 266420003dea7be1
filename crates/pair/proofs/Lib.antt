-- The cases of reading a pair, and what is known of both files in each.
pub mod Cases
pub mod Bounds
pub mod Found
pub mod Words
