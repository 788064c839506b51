pub mod Fitting
pub mod InTurn
pub mod Names
pub mod Rows
