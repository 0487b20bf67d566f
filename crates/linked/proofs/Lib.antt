pub mod Finding
pub mod Moving
pub mod Holding
pub mod Walking
pub mod Leading
pub mod Putting
pub mod Taking
pub mod Storing
