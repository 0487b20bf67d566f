pub mod Ahead
pub mod Written
pub mod Says
pub mod Left
