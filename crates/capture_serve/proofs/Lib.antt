pub mod Taking
pub mod Coming
pub mod Going
pub mod Closed
pub mod Whole
pub mod Wholes
pub mod Sending
pub mod Reading
