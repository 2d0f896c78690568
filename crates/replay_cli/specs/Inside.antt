-- Words of private clauses and of what holds of fields. They need not be believed.
pub mod Ending
pub mod Steps
pub mod Work
pub mod Showing
pub mod Serving
