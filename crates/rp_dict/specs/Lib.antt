pub mod Dict
pub mod Form
pub mod Places
pub mod Ranks
pub mod Slot
pub mod Walk
