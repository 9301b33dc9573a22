mod Bytes
mod Cursors
mod Examples
mod Inplaces
mod Operated
mod Powers
mod Quotients
mod Rounded
mod WalkExamples
mod Walks
pub mod CallerLemmas
