-- Laws of reading that the proofs here and callers cite; each function's proof is in its own folder.
pub mod Heads
pub mod Stores
pub mod TermTable
pub mod Folds
pub mod Shapes
pub mod StmtFolds
pub mod StatementTable
pub mod Filling
pub mod Handlers
pub mod Places
pub mod Fitting
pub mod Moved
pub mod StmtMoved
pub mod Cases
