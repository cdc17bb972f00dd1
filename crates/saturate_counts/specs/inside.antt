pub mod Prepared
pub mod Counting
pub mod Supported
