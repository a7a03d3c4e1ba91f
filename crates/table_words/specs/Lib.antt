pub mod Answers
pub mod Bounds
pub mod Layout
pub mod Parts
pub mod Reads
pub mod Spans
pub mod Spent
pub mod Tried
