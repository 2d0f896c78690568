mod Keeping
mod Comparing
mod Repeats
