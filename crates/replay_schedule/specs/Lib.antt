pub mod Gates
pub mod Schedule
pub mod View
pub mod Inside
