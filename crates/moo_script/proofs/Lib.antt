pub mod Digits
pub mod Forms
pub mod OneAnswer
pub mod OneReading
pub mod Scripts
pub mod Spaces
