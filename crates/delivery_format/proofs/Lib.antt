pub mod Walk
pub mod Whole
pub mod Sections
pub mod Encoding
pub mod Unknown
pub mod Decoding
pub mod Fitting
pub mod Decoded
