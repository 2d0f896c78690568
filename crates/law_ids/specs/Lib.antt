pub mod Counters
pub mod Given
pub mod Pairs
pub mod Replays
