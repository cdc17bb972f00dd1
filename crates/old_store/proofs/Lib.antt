pub mod Tables
pub mod Carrying
pub mod Carried
pub mod WorkedCarrying
