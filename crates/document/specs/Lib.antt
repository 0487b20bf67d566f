pub mod Tree
pub mod Listing
pub mod Table
pub mod Statements
