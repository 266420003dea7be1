-- What holds of the composition of two pairs.
pub mod Sizes
pub mod Clear
pub mod Rules
pub mod Joined
pub mod HandlerFile
pub mod Sides
pub mod Outcomes
pub mod Words
pub mod Theorems
