pub mod Classes
pub mod JournalFiles
pub mod JournalReader
pub mod Lasts
pub mod Reports
pub mod Once
