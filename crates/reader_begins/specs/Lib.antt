pub mod Joints
pub mod Steps
pub mod Terms
