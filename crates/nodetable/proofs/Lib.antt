pub mod Elements
pub mod Gathered
pub mod Least
pub mod Repeated
pub mod Scanning
pub mod Sorting
pub mod Misformed
