pub mod Behind
pub mod Crossing
pub mod Pieces
pub mod Plain
pub mod Sameness
