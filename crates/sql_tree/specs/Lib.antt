pub mod Plain
pub mod Naming
pub mod Leaves
