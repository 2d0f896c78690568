pub mod Gaps
pub mod Inside
