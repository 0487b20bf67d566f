pub mod Trails
pub mod Walking
pub mod Writing
pub mod Adding
