pub mod Outlined
pub mod Reached
pub mod Sought
