pub mod Numbered
mod Scripts
mod Lasting
pub mod Settled
mod Spent
mod Lent
mod Turning
mod Beginning
pub mod GlobalNames
pub mod Heights
pub mod LaterWorlds
mod LoadedWorlds
pub mod ProgramsOn
mod Staying
mod Answering
mod Endings
pub mod Finished
mod Given
mod Lists
pub mod Placing
pub mod Resolved
mod Beginnings
