pub mod Drawing
pub mod Traffic
