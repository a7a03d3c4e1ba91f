pub mod Appended
pub mod First
pub mod Numbers
pub mod Sums
