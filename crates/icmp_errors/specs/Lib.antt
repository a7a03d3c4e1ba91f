pub mod Answers
pub mod Errors4
pub mod Policy6
