mod Read
mod Bare
mod Plain
mod Reading
mod Marked
mod One
mod Found
