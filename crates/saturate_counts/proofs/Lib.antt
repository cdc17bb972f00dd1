pub mod NodeBits
pub mod Adding
pub mod Zeros
