mod Captures
mod Fronts
mod Owners
