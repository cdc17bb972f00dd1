pub mod Decoding
pub mod Marking
pub mod Scanning
pub mod Parting
