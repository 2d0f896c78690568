-- What the proofs of the crate share.
pub mod Exact
pub mod Handing
pub mod Keeping
pub mod Laying
pub mod Looks
pub mod Marks
pub mod Members
pub mod Noting
pub mod Once
pub mod Ordering
pub mod Repeating
pub mod SoundAnswers
pub mod SoundPlans
pub mod SoundRows
pub mod SoundSteps
pub mod Versions
