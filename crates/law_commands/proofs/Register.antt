pub mod OneEnd
pub mod OneList
pub mod Answering
