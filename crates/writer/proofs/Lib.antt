pub mod Passing
pub mod Chunks
pub mod Formed
pub mod Written
pub mod Accepting
