pub mod Job
pub mod Runs
pub mod Events
pub mod Replays
pub mod Jobs
