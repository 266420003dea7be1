-- The one form of a proof file: its tables by their members, numbered by first mention, and written.
pub mod Members
pub mod Mentions
pub mod Form
