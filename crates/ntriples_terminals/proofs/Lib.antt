pub mod Ending
pub mod Firsts
