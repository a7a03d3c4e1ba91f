pub mod Blocks
pub mod Fits
pub mod Laws
pub mod Members
pub mod Owners
pub mod Rows
pub mod Shares
pub mod Spans
