-- Words of private clauses. They need not be believed.
pub mod Numbers
