pub mod Table
pub mod Entries
