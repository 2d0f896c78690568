pub mod Legality
pub mod Commands
pub mod Register
pub mod Generated
