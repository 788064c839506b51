pub mod Told
pub mod Wanted
pub mod Steps
pub mod Arguments
pub mod Descent
