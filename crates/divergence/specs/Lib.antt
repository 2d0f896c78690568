pub mod Class
pub mod Laws
pub mod Bags
