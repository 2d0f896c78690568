pub mod Limits
pub mod Services
pub mod IdMap
pub mod Sent
pub mod MapsText
pub mod Inside
