pub mod Output
pub mod Between
pub mod Streams
pub mod Listing
pub mod Merging
pub mod Whole
