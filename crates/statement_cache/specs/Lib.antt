pub mod Limits
pub mod Kinds
pub mod Kept
pub mod Count
pub mod Laws
pub mod Inside
