-- What the constructs do at their steps, by groups.
pub mod Operators
pub mod Lists
pub mod Access
pub mod Calls
pub mod Branches
pub mod Loops
pub mod Handlers
pub mod Scatter
pub mod Forks
