pub mod JournalView
pub mod JournalFile
pub mod Last
pub mod Report
pub mod Differences
pub mod Laws
pub mod Inside
