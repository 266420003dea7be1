-- A pair of files: how long each may be, what both hold, and what a check is told besides them. `Refinement` is for private contracts alone.
pub mod Limits
pub mod Reading
pub mod Modes
pub mod Refinement
