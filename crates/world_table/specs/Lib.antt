pub mod Branch
pub mod Contents
pub mod Entries
pub mod Falls
pub mod Held
pub mod Revised
