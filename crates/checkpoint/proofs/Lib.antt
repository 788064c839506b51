pub mod Drafts
pub mod FixtureReads
pub mod ReadableParts
pub mod Reach
pub mod Faults
