pub mod FirstBits
pub mod Viewing
pub mod Refusals
pub mod Cases
