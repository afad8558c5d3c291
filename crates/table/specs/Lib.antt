pub mod Lent
pub mod Slices
pub mod Tables
