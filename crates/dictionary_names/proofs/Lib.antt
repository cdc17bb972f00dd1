pub mod Staying
pub mod Segments
pub mod Room
pub mod Naming
pub mod Reading
