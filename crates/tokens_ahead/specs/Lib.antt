pub mod Bare
pub mod Ahead
