-- Admission to a core: its slots, the calls, the record as numbers, and any list of calls.
pub mod Slots
pub mod Calls
pub mod Lent
pub mod Served
pub mod History
