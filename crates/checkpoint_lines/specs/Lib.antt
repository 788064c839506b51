pub mod Gives
pub mod Rows
pub mod Told
