pub mod Items
pub mod Places
pub mod Extended
pub mod Truth
