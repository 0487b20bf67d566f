pub mod Scans
pub mod Writing
pub mod ReadBack
pub mod Accepted
