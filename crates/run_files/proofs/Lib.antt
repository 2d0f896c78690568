pub mod CausesFiles
pub mod Fits
pub mod ReadsFiles
pub mod ReadsReader
pub mod Timing
