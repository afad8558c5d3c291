pub mod Openings
pub mod Orders
pub mod Outcomes
pub mod Prints
