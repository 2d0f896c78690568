pub mod Members
pub mod Bags
pub mod Expressions
pub mod Totals
