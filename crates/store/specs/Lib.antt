pub mod Kept
pub mod Views
pub mod Writes
pub mod Says
pub mod Listed
pub mod Statements
pub mod Links
pub mod Meaning
