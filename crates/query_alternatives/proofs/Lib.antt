pub mod PutLaws
pub mod SourceLaws
pub mod GatherLaws
