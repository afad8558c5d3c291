pub mod Decimal
pub mod Grown
pub mod Hex
pub mod Shown
pub mod Words
