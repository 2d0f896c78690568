pub mod Members
pub mod Orders
pub mod Ledger
pub mod Differences
pub mod Inside
