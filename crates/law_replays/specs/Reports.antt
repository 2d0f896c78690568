-- What the report on a replay names.
pub mod Laws
