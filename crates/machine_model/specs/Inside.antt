-- Words of private clauses and of what holds of fields. They need not be believed.
pub mod Machine
