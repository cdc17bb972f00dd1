pub mod Writing
pub mod CanonicalForm
pub mod WritingPromises
pub mod Exported
