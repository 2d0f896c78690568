pub mod Sessions
pub mod Finishing
pub mod Inside
