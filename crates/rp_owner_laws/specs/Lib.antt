pub mod Kept
pub mod Code
pub mod Owners
pub mod Cut
pub mod Stores
pub mod Items
pub mod Uses
