-- Fields put into lent bytes, and a file as the list of its fields.
pub mod Writing
pub mod Packing
pub mod Sets
