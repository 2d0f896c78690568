pub mod Turns
pub mod Gates
pub mod Telling
