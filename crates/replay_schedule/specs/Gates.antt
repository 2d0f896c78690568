-- A gate that has just the starts and the answers of a history.
pub mod Following
pub mod Laws
