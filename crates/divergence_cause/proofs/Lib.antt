mod Found
mod Marking
mod Timing
