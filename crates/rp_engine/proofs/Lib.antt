pub mod Answering
pub mod AtHand
mod Beyond
pub mod CodeCalls
pub mod CodeHeights
pub mod CodeNumbers
pub mod Doings
pub mod Equations
pub mod Firsts
pub mod FormEquations
pub mod Gatherings
pub mod Going
pub mod Lasts
pub mod Moves
pub mod Namings
pub mod NoItems
pub mod Passing
pub mod Slots
pub mod SpecialMoves
pub mod Specials
pub mod Unbinding
pub mod Weights
mod WholeNumbers
pub mod Worlds
