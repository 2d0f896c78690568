-- What the proofs of the crate share.
pub mod Members
pub mod Rows
pub mod Same
pub mod Keeping
pub mod Holding
pub mod Tables
pub mod Writing
pub mod Updating
pub mod Seeing
pub mod Steps
pub mod Answers
pub mod Choices
pub mod Given
pub mod Runs
pub mod There
