pub mod Crossing
pub mod Views
pub mod Keeps
