pub mod Keeping
pub mod Asking
pub mod Turns
pub mod Taking
pub mod Halting
