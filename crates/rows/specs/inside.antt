pub mod Rows
pub mod Effects
