pub mod PlainKeepers
pub mod Blocks
pub mod Keepers
