pub mod Footing
pub mod Inside
