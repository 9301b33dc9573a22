mod Blocks
mod Live
mod Pairs
