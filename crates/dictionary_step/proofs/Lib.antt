pub mod EntriesRead
pub mod Terms
pub mod Texts
pub mod Steps
pub mod Asking
