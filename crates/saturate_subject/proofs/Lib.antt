pub mod Columns
pub mod Plain
pub mod Properties
pub mod Subjects
