pub mod Packet4
pub mod Packet6
pub mod Rules
pub mod Seen
