-- What the proofs of the crate share.
pub mod Apart
pub mod Filters
pub mod Handing
pub mod Rising
pub mod Telling
pub mod Texts
