pub mod Commands
pub mod Faults
pub mod Jobs
pub mod Lines
pub mod Messages
pub mod Parts
pub mod Seen
