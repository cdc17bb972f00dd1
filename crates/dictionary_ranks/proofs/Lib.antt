pub mod Ranks
pub mod Slots
pub mod Taken
