mod FirstTokens
pub mod Bare
pub mod ReadBack
mod Lengths
mod Taken
mod Literals
mod Fronts
