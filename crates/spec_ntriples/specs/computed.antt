pub mod Decoded
pub mod Terminals
pub mod Lines
pub mod Canonical
