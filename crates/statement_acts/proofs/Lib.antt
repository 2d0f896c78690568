-- What the proofs of the crate share.
pub mod Adding
pub mod Apart
pub mod Changing
pub mod Refusing
pub mod Sums
