pub mod Copying
pub mod Vocabulary
