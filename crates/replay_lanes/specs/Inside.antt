-- Words of private clauses. They need not be believed.
pub mod Courses
pub mod Turns
pub mod Seats
