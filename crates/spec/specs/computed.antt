pub mod Carried
pub mod Solutions
pub mod Reformulated
pub mod Decoded
pub mod Saturated
pub mod Closed
