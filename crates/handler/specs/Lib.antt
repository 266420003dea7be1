-- The handler file (docs/FORMAT.md, "Handler file" and "Faults of reading"): reading, and what is computed from what was read.
pub mod Header
pub mod Expressions
pub mod Statements
pub mod Kinds
pub mod Terms
pub mod StatementTable
pub mod Reading
pub mod Shapes
pub mod Refinement
