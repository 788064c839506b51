pub mod Plays
pub mod Told
pub mod Writing
