pub mod Rows
pub mod Due
pub mod Filling
pub mod Back
pub mod Accepting
pub mod Handing
