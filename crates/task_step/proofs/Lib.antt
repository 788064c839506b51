pub mod Crossing
mod Bytes
pub mod Numbers
