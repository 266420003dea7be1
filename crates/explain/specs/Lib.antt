-- What an explanation says: the sentence of a number, the letters and values of states, and the child at fault.
pub mod Text
pub mod Sentences
pub mod Naming
pub mod Children
