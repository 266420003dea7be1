pub mod Room
pub mod Numbers
pub mod Cases
