pub mod IndexOf
