pub mod PropertyNames
pub mod Records
pub mod SlotsNamed
pub mod Tables
pub mod Whole
pub mod WorldPlaces
