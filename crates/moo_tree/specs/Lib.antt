pub mod Depth
pub mod ExpressionFalls
pub mod ExpressionView
pub mod StatementFalls
pub mod StatementView
