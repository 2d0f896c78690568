pub mod Readiness
pub mod Keeping
pub mod Sessions
