pub mod Told
pub mod End
pub mod Reports
