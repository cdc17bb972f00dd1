pub mod Raise
pub mod RaisePass
pub mod Missing
