pub mod Holds
pub mod Index
pub mod Tables
pub mod Inside
