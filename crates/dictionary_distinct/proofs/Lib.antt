pub mod Apartness
