pub mod ValueKinds
pub mod Telling
pub mod Wanting
pub mod Stepping
pub mod Natives
pub mod Pieces
