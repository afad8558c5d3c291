pub mod Fronts
pub mod Known
pub mod Laws
pub mod Numbers
pub mod Rules
pub mod Runs
pub mod Sights
