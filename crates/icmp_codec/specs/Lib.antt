pub mod Message4
pub mod Message6
pub mod Quoted
