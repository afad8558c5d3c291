pub mod Entries
pub mod Laws
pub mod Memory
pub mod Outcomes
pub mod Questions
pub mod Sound
