pub mod Fits
pub mod Held
pub mod Holding
pub mod Leaving
pub mod Marks
pub mod Reading
