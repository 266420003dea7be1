-- The theorem `soundness`, in reading order.
pub mod Safe
pub mod Composition
pub mod Reading
pub mod Descent
pub mod Rules
pub mod Runs
pub mod Values
pub mod Remainder
pub mod Storing
pub mod Conditions
pub mod Clear
pub mod Soundness
pub mod FormerOrder
pub mod Complaints
pub mod Numbers
pub mod Facts
pub mod Naming
