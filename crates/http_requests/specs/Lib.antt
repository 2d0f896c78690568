pub mod Limits
pub mod Heads
pub mod Decisions
pub mod Requests
pub mod Fields
pub mod Inside
