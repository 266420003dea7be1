-- The answer as one number, and why the code computes the composition.
pub mod Decoding
mod Asked
mod Loading
mod Filled
mod Roots
mod Comparing
mod Mentioning
mod Stored
mod Places
mod TableBits
mod TableFields
mod HandlerFields
mod NewNodes
mod Deciding
mod Leaving
mod Absorbed
mod JoinedNames
mod JoinedParts
mod Limits
mod Held
mod BothPairs
mod Checked
mod Promised
