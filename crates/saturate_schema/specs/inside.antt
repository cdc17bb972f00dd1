pub mod Walks
pub mod Nodes
pub mod Squares
pub mod Groups
pub mod Ascent
pub mod Sums
pub mod Compiled
