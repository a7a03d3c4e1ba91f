pub mod Quotes
pub mod Relayed
