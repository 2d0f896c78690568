pub mod Rows
pub mod Renaming
pub mod Ranks
pub mod Applies
pub mod Marks
pub mod Levels
