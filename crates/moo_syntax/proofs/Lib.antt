pub mod Lines
pub mod Ended
pub mod EndsTell
pub mod Going
pub mod Trimmed
pub mod Answered
pub mod TermNodes
pub mod TermsJoined
