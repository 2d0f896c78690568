-- What the proofs of the crate share.
pub mod Held
pub mod Puts
