pub mod Next
pub mod Ends
pub mod Behind
pub mod Begins
pub mod Step
pub mod Work
pub mod Whole
pub mod Laws
