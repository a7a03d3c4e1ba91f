pub mod Bindings
pub mod Conflicts
pub mod Refusals
pub mod Scans
pub mod Tables
pub mod Steps
pub mod Owning
