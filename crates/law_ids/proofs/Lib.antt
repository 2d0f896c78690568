pub mod Members
pub mod Giving
pub mod Steps
pub mod Runs
pub mod Starts
pub mod Known
pub mod Apart
pub mod Replays
