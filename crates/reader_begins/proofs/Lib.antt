pub mod TakenJoints
pub mod Ends
pub mod TermsRead
