pub mod Numbers
pub mod OutcomeView
pub mod StepView
