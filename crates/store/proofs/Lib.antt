pub mod Passing
pub mod Fitting
pub mod Applied
pub mod Laws
pub mod Lowered
pub mod Lent
