pub mod Cutter
pub mod Unfinished
pub mod Readings
pub mod Texts
pub mod Characters
