pub mod Cutting
pub mod Kept
pub mod Left4
pub mod Left6
pub mod Pieces4
pub mod Pieces6
pub mod Laws
