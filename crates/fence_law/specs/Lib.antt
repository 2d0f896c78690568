pub mod Plain
pub mod Laws
pub mod Text
pub mod Inside
