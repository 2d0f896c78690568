pub mod Cause
pub mod Twins
pub mod Causes
pub mod Laws
pub mod Text
pub mod Inside
