pub mod Rooms
pub mod Objects
