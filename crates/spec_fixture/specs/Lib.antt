pub mod Programs
pub mod Fixture
pub mod Texts
pub mod Opened
