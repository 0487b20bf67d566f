pub mod Counting
pub mod Gathering
pub mod Tested
pub mod Ordered
pub mod Passing
pub mod Scanned
pub mod Repeats
pub mod Passes
