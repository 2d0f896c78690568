-- That ids do not matter to what the server answers.
pub mod Cases
pub mod Inputs
pub mod Twins
pub mod Replies
pub mod Order
pub mod Laws
