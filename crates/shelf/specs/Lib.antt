pub mod Laws
pub mod Outcomes
pub mod Questions
pub mod Shelves
