pub mod Crossing
pub mod Rising
pub mod Rows
pub mod Roots
pub mod Walks
pub mod Revising
