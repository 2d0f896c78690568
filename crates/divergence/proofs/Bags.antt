pub mod RowOrder
pub mod Counts
pub mod SameRows
pub mod SameImages
