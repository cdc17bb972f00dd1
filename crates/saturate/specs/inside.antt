pub mod Saturated
