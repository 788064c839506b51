pub mod Crossing
pub mod Texts
