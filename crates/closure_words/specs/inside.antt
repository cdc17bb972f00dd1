pub mod Layout
pub mod Closure
