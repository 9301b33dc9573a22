pub mod Entry
pub mod Line
pub mod View
