pub mod Told
pub mod Ways
