pub mod SameIds
pub mod New
pub mod Carrying
