pub mod Seconds
pub mod Kept
pub mod Newest
