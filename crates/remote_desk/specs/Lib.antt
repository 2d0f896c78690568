pub mod History
pub mod Said
pub mod Desk
pub mod View
pub mod Inside
