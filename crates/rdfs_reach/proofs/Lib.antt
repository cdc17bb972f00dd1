pub mod MarkLaws
pub mod WorkLaws
