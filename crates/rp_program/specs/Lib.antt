pub mod Fault
pub mod Leaves
pub mod Program
pub mod ProgramWords
