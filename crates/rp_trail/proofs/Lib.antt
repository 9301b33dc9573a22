pub mod Literals
pub mod Fronts
