-- Words of private clauses and of what holds of fields. They need not be believed.
pub mod Holds
pub mod Index
pub mod Tables
