-- One row for each construct.
pub mod Numbers
pub mod Expressions
pub mod Targets
pub mod Lists
pub mod Statements
pub mod Branches
pub mod Scatter
pub mod Catching
pub mod Guarded
pub mod Every
