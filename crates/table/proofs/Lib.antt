pub mod Climbs
pub mod Halving
pub mod Keys
pub mod Places
pub mod Shifts
