-- The verdict as the check program's line and as the C interface's number.
pub mod Code
pub mod States
pub mod Line
pub mod Put
pub mod Root
