-- Which ids a step tells.
pub mod Own
pub mod Laws
