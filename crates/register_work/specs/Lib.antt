pub mod Keeping
pub mod Errand
pub mod Lines
pub mod Inside
