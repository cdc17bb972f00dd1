pub mod CarryingOver
pub mod CarryingPromises
