pub mod Limits
pub mod Answers
pub mod Conversation
pub mod Ends
pub mod Inside
