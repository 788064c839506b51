pub mod Functions
pub mod Sorts
