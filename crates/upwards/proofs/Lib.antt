pub mod Short
pub mod Ways
