pub mod Place
pub mod SearchLaws
pub mod Supports
pub mod Store
