pub mod Legality
pub mod Commands
