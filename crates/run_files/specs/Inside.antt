-- Words of private clauses. They need not be believed.
pub mod Reading
pub mod Times
