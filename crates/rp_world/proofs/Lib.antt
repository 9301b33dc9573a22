mod Apart
mod Declared
mod Filled
pub mod GlobalWords
mod Grown
mod Laws
mod Lookups
mod Missing
mod Places
pub mod Refusals
pub mod Seen
mod Slots
mod Spots
mod Tabled
mod TextOrder
mod Turns
