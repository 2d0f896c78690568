pub mod Basis
pub mod ByKey
pub mod Inside
