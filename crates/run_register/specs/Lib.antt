pub mod Register
pub mod Comparison
pub mod Memory
pub mod Inside
