-- Words of private clauses; they need not be believed.
pub mod Calls
pub mod Serving
pub mod Standing
pub mod Passing
pub mod Walking
