pub mod Sound
pub mod Responding
