pub mod Frames
pub mod Leb128
pub mod Pieces
pub mod Prefixes
pub mod Scans
pub mod Worked
