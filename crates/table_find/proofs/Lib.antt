pub mod Place
pub mod FindLaws
