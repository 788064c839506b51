pub mod Nodes
pub mod Parts
pub mod Arriving
pub mod Telling
pub mod Places
pub mod Turns
pub mod Arrived
pub mod Standing
