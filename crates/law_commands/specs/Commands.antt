-- On which words and files a command does its work.
pub mod Complete
pub mod Ends
pub mod Headline
pub mod Reports
pub mod Served
pub mod Statuses
