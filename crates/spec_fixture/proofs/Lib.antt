pub mod FixtureFits
