mod AttributeExamples
pub mod CallerLemmas
mod Found
pub mod MethodNames
mod Places
mod Rows
