mod Fronts
mod Reading
mod Spaces
mod OneWords
pub mod Numbers
pub mod Fits
pub mod Tallies
pub mod NamingRules
pub mod Requests
pub mod VerbRules
pub mod LineRules
pub mod ProgramRules
