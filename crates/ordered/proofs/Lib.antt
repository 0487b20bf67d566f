pub mod Moves
pub mod Comparing
pub mod Orders
pub mod Lookups
