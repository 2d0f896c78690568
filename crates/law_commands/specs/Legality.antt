-- Which captures the verdict takes, and where it refuses the others.
pub mod First
pub mod Tables
