-- The states that a search finds, and the value that names them.
pub mod Named
