pub mod Entries
pub mod Less
pub mod Formed
pub mod Found
