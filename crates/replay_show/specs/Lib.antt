pub mod Texts
pub mod Values
pub mod Shown
pub mod Transactions
pub mod Ids
pub mod Lines
