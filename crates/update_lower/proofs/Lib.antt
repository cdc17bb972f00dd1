pub mod Lower
pub mod LowerPass
pub mod Passed
pub mod Clearing
