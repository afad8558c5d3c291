pub mod BigEndian
pub mod Events
pub mod Kinds
pub mod Lawful
pub mod Spoken
pub mod Texts
