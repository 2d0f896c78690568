-- What the proofs of the crate share.
pub mod Forgetting
pub mod Held
pub mod Holders
pub mod Indexing
pub mod Noting
pub mod Numbers
pub mod Storing
pub mod Telling
