pub mod Crossing
pub mod ExpressionCrossing
pub mod Sameness
