pub mod Lists
pub mod Marks
pub mod Places
pub mod Targets
pub mod Texts
pub mod Depth
pub mod Boxes
