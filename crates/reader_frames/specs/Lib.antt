pub mod LeftView
pub mod FrameViews
pub mod ListView
pub mod LinesView
pub mod BegunView
pub mod StateView
