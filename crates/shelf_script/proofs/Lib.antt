mod Printing
pub mod Listing
pub mod Steps
