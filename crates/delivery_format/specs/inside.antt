pub mod Encodable
pub mod Sections
