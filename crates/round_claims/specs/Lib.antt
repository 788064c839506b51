pub mod Claimed
pub mod Rule
