pub mod Reads
pub mod Refused
pub mod Writes
