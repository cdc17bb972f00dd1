pub mod Shift
pub mod Insert
pub mod Remove
pub mod Change
