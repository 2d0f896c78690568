pub mod Places
pub mod Seating
pub mod Telling
pub mod Walking
