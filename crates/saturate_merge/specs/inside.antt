pub mod Output
pub mod Between
pub mod Streams
