pub mod Entering
pub mod Goodness
pub mod Rule
pub mod Staying
pub mod Remembering
