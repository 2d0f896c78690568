pub mod Connections
pub mod Service
pub mod Failing
pub mod Seen
pub mod Inside
