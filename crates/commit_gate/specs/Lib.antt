pub mod Gates
pub mod Inside
pub mod View
