pub mod Decoding
pub mod Decimal
pub mod Writing
pub mod Lines
pub mod RootTables
pub mod Marked
pub mod Cases
