-- What the proofs of the crate share.
pub mod Adding
pub mod Placing
