pub mod Answers
pub mod Blobs
pub mod Commands
pub mod Reports
