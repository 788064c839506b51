pub mod Cutting
pub mod Searching
pub mod Standing
mod Ascii
