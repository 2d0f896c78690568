pub mod Quiet
pub mod Viewer
pub mod Data
pub mod Captured
