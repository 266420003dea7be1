pub mod Holding
pub mod Laws
pub mod Bytes
pub mod Copied
pub mod Packed
pub mod SetBits
pub mod Cases
