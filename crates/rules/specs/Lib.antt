-- What the contracts of the rules use: the tables in the work words, conditions checked in order, and the conditions on a node.
pub mod Words
pub mod Asking
pub mod Obligations
