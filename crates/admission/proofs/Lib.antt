pub mod Arrays
pub mod Looking
pub mod Laying
pub mod Decoding
