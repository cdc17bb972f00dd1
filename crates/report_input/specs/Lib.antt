pub mod inside
pub mod Input
