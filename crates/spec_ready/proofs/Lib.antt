pub mod GoingOn
pub mod Readiness
