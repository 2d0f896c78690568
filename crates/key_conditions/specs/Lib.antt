pub mod Laws
pub mod Sought
