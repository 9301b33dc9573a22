pub mod Gives
pub mod ScriptSteps
pub mod Visits
