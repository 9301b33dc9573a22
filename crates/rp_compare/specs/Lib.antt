pub mod Equality
pub mod Order
pub mod Membership
