pub mod Words
pub mod GoingOut
