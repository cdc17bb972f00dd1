pub mod Kept
pub mod Standing
pub mod Keeping
pub mod Walking
