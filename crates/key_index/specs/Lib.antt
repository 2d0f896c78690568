pub mod Inside
pub mod Triples
