pub mod Answer
pub mod Given
pub mod Ends
pub mod StandsFor
pub mod Advances
pub mod HiddenNodes
