pub mod ReadsView
pub mod ReadsFile
pub mod CausesFile
pub mod Fitting
pub mod Lines
pub mod Inside
