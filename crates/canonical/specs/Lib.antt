-- What is written of two files, and what is turned away; the nodes of a table as they are written. `Refinement` is for private
-- contracts alone.
pub mod Canonical
pub mod Nodes
pub mod Refinement
