pub mod Alike
pub mod Agreement
pub mod History
pub mod Instances
pub mod Running
