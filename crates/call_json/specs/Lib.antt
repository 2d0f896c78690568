pub mod Forms
pub mod Spellings
pub mod Inside
