pub mod Readers
pub mod Coming
pub mod Letters
