pub mod Binding
pub mod TableSteps
pub mod View
