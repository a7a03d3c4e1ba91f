pub mod Names
pub mod Keys
pub mod Files
pub mod Parts
pub mod Plain
pub mod PlainBlocks
pub mod PlainHeads
