pub mod Content
pub mod Kept
pub mod Spells
