pub mod Collected
pub mod Effects
