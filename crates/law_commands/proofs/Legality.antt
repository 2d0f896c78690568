pub mod Walks
pub mod Fits
pub mod Taken
pub mod Both
pub mod Tables
