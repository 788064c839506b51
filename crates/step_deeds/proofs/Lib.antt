pub mod Closing
pub mod ToldLines
pub mod Queueing
