pub mod Tables
pub mod SortLaws
pub mod RowWords
pub mod HeldWords
pub mod PermutedLaws
