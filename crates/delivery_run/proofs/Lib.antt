pub mod Sections
pub mod Conclusions
pub mod Laws
