pub mod Planting
pub mod Statements
