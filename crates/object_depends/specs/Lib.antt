pub mod Facts
pub mod Required
pub mod Tallies
pub mod Csv
pub mod NeedsView
pub mod Inside
