pub mod Writing
pub mod OrderColumns
pub mod Arranged
pub mod Filling
