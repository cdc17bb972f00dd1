pub mod Search
pub mod Writing
