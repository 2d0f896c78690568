pub mod Ids
pub mod Pairs
pub mod Renaming
pub mod Carrying
