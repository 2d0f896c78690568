pub mod Adding
pub mod Finds
pub mod Limiting
