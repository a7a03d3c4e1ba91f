pub mod Firsts
pub mod Gone
pub mod Greatest
pub mod Having
pub mod Keys
pub mod Laws
pub mod Leasts
pub mod Links
pub mod Pairs
pub mod Rising
pub mod Slots
pub mod Upwards
mod Counts
mod Taken
