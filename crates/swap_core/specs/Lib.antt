pub mod Laws
pub mod Plans
pub mod Points
pub mod Sound
pub mod States
pub mod Transitions
pub mod Views
