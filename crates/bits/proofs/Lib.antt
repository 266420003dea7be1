pub mod Laws
pub mod Places
pub mod Bytes
pub mod Cases
