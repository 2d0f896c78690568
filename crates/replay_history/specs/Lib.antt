pub mod Limits
pub mod Mode
pub mod Class
pub mod Gap
pub mod History
pub mod Capture
pub mod Texts
