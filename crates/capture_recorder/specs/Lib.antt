pub mod Limits
pub mod Recording
pub mod Doors
pub mod Gathering
pub mod Agreement
pub mod Listed
pub mod Generated
pub mod Inside
