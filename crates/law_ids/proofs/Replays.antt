pub mod Starts
pub mod Pairs
pub mod Learnt
