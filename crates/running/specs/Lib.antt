pub mod Worlds
pub mod Called
pub mod Parts
pub mod Asking
pub mod Calls
pub mod Aside
pub mod Reckoning
