pub mod Values
pub mod Nodes
pub mod WorldValues
pub mod UnderWay
pub mod Whole
