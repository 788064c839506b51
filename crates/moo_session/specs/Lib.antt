pub mod Sessions
pub mod Drafts
pub mod Texts
pub mod Refusals
