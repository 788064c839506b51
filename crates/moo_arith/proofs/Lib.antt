pub mod AlikeIntegers
pub mod Finding
pub mod Parts
