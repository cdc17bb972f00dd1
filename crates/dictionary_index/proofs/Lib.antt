pub mod Searching
pub mod Indexing
pub mod Segments
