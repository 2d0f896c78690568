pub mod Heard
pub mod Dials
pub mod Talk
pub mod Lines
pub mod Inside
