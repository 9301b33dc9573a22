pub mod Globals
pub mod PlacingSteps
pub mod Worlds
