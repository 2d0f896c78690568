pub mod Spoken
pub mod Agreement
pub mod Lines
pub mod Ends
pub mod Dialled
pub mod Inside
