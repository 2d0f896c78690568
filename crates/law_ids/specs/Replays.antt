-- The pairs of a replay.
pub mod Laws
