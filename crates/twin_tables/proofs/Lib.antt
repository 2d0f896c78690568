pub mod Handed
mod Alike
pub mod Renamed
pub mod Written
pub mod Agreeing
pub mod Keeping
