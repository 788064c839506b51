pub mod Readable
pub mod Faulty
