pub mod Walked
pub mod Made
