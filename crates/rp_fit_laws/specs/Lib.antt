pub mod Programs
pub mod Fit
pub mod Laws
pub mod Worlds
