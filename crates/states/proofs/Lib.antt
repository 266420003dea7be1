-- The laws of sets and relations of states that callers cite.
pub mod Search
pub mod Least
pub mod Bits
pub mod Where
pub mod Swaps
pub mod Words
pub mod Cells
pub mod Reach
pub mod Spread
pub mod EntryLaws
pub mod Ranges
pub mod Rows
pub mod Members
pub mod Taking
