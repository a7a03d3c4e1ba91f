pub mod Compiled
pub mod Phases
