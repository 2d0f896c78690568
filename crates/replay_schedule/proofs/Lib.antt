pub mod Gates
pub mod Schedules
pub mod Ids
pub mod Crossings
