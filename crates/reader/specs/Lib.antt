pub mod Bytes
pub mod Layout
pub mod Reading
pub mod Due
pub mod Accepted
pub mod Handed
