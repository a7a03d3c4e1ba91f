pub mod Lists
pub mod Rounds
pub mod Ends
pub mod Threads
pub mod Pipelines
