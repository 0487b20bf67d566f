pub mod Scratch
pub mod Order
pub mod Keys
pub mod Tested
pub mod Open
