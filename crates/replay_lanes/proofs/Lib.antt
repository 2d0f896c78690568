mod Behind
mod Counting
mod Ranges
mod Seated
