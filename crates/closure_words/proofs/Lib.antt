pub mod Columns
pub mod Lookup
