pub mod Sound
pub mod Sharing
pub mod Lines
