-- What replacing each id by its pair leaves of values, rows and totals.
pub mod Bags
pub mod Images
pub mod Laws
