pub mod Places
pub mod PortSets
pub mod Shapes
