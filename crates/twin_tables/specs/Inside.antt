-- Words of private clauses; they need not be believed.
pub mod Judging
