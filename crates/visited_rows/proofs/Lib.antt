-- What the proofs of the crate share.
pub mod Apart
pub mod Standing
pub mod Twice
pub mod Visits
