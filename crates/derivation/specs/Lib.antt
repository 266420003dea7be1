-- The proof file (docs/FORMAT.md, "Proof file" and "Faults of reading"): its tables, its nodes, the table of them, and the whole.
pub mod Tables
pub mod Nodes
pub mod NodeTable
pub mod Storing
pub mod Reading
