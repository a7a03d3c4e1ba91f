mod Elements
mod FirstRefusals
pub mod Trees
mod Members
mod Written
mod Unique
mod Walks
mod PlainLines
mod PlainSteps
mod PlainTrees
