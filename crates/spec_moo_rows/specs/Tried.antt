-- Programs of many kinds, and what they come to.
pub mod Handlers
pub mod Loops
pub mod Calls
pub mod Values
