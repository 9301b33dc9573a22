mod Examples
pub mod Slots
pub mod Sound
pub mod Tables
