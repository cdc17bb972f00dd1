pub mod Entries
pub mod Steps
pub mod Batch
pub mod Outcomes
pub mod Looking
