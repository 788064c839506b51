pub mod Nodes
pub mod Marks
pub mod Views
pub mod BlockViews
