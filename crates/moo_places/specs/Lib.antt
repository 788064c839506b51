pub mod Reaching
pub mod Seeking
