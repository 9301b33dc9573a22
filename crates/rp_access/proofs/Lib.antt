mod Additions
mod Asked
mod Changed
mod ClassesMade
pub mod Coupled
mod Decided
mod DeclaredClasses
mod Excepted
mod Exposed
mod FunctionLaws
pub mod Going
mod Growing
mod HeldNames
mod Inplaces
mod KindNames
pub mod Known
pub mod LengthCalls
mod Letters
pub mod Lists
mod Naming
mod NamedReads
mod NamedWords
pub mod Namings
mod NamedCalls
mod NativeCalls
mod ObjectCalls
pub mod Occupants
mod Operands
mod Printing
mod Sliced
pub mod Spreadings
mod Unpacked
mod WalkSteps
mod Walked
pub mod Worlds
