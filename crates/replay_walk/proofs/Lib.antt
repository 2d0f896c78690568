mod Ids
mod Counts
pub mod Captures
pub mod Answers
mod Places
mod Parts
mod Zipped
mod Told
mod Seen
mod Footings
pub mod Meeting
mod Serving
mod Behinds
mod Alike
mod Both
mod Asking
mod Imaged
mod Telling
mod Open
mod Walking
