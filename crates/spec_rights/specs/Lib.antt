pub mod Permitted
pub mod Chains
pub mod LeftAlone
