pub mod EscapeSteps
pub mod Shown
pub mod Show
pub mod ShowView
pub mod Prints
