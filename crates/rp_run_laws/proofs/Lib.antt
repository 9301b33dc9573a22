mod Beginnings
pub mod Complete
mod Determined
mod Endings
pub mod Entries
pub mod Fit
mod Held
mod Numbered
mod Numbering
mod Once
mod OneFault
pub mod Unallowed
pub mod Unwatched
