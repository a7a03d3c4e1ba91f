pub mod Contents
pub mod Entries
pub mod FailedCalls
pub mod Known
pub mod Memory
pub mod Outside
pub mod Pieces
pub mod System
