pub mod BuiltIns
pub mod Attributes
