pub mod Entries
pub mod Fields
pub mod Drawn
pub mod Lines
pub mod Services
pub mod Records
