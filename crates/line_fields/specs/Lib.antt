pub mod Fields
pub mod Bits
pub mod Values
pub mod Places
pub mod Numbers
pub mod Quoted
pub mod Said
pub mod Cutting
