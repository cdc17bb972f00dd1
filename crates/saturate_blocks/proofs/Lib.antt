pub mod Ranges
pub mod Gathering
pub mod Plain
