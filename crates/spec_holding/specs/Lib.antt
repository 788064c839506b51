pub mod Points
pub mod Fitting
pub mod UnderWay
pub mod Whole
pub mod Unspelled
