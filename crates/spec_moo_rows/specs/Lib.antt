pub mod Trying
pub mod StepRows
pub mod Tried
pub mod Rows
