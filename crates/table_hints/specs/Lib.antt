pub mod Lines
pub mod Rereading
pub mod UnknownKeys
