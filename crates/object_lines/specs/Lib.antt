pub mod Readable
pub mod Between
pub mod Parts
pub mod Held
pub mod ObjectAwaited
