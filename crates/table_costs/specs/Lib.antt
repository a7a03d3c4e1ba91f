pub mod Costs
pub mod FirstLines
