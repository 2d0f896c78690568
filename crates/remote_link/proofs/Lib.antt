pub mod Keeping
pub mod Talking
pub mod Dialling
