-- What pairs of ids make of captured values, rows and images.
pub mod Carried
pub mod Laws
