pub mod Evaluation
pub mod Inside
