pub mod Histories
pub mod Flags
pub mod Order
pub mod Alike
pub mod Replies
pub mod Answered
pub mod Saying
pub mod Desks
