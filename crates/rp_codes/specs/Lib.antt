pub mod CodeSteps
pub mod Codes
