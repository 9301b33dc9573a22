pub mod Answers
pub mod Granted
pub mod Interacting
pub mod Kept
pub mod Least
pub mod ReasonsSteps
pub mod Why
