pub mod DistinctLaws
pub mod MergedLaws
