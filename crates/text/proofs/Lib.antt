pub mod DecimalLaws
pub mod GrownLaws
pub mod HexLaws
pub mod ShownLaws
pub mod WordLaws
