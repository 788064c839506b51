pub mod Opens
pub mod StepsPerformed
pub mod Ready
pub mod Tasks
pub mod Accepting
pub mod Codes
pub mod Stops
