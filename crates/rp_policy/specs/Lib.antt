pub mod CollectionSteps
pub mod Forbidden
pub mod Offences
pub mod Spots
