pub mod ReadBack
pub mod ProgramTokens
pub mod ReadPrograms
pub mod Canonical
