pub mod Compute
pub mod Entries
