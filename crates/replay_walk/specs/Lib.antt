pub mod Walks
pub mod Twins
pub mod Walked
pub mod Inside
