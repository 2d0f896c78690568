-- Rows as bags, and images as maps from rows.
pub mod Equality
pub mod Laws
