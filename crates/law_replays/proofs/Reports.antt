pub mod Classed
pub mod Named
