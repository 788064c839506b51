pub mod Behind
pub mod Cutting
pub mod OneWord
pub mod CommandLinesMeant
pub mod Numbers
pub mod Fits
pub mod Meanings
pub mod Openings
