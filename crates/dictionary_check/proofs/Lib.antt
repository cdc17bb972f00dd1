pub mod AllEntries
