-- What the proofs of the crate share.
pub mod Connected
pub mod Keeping
pub mod Given
pub mod Bounds
pub mod Saying
pub mod Comparing
pub mod Answering
pub mod Agreeing
pub mod Files
pub mod Listed
pub mod Generating
