pub mod Limits
pub mod Desk
pub mod Command
pub mod Within
pub mod Inside
