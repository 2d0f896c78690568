-- What a whole replay comes to.
pub mod Answers
pub mod Tables
pub mod Twins
pub mod Laws
