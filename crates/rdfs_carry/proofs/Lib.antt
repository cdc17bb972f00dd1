pub mod WordRows
pub mod WrittenLaws
