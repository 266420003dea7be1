-- Where a refusal is shown in the two files.
pub mod View
