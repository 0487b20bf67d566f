pub mod Means
pub mod Document
pub mod Walks
pub mod Judging
pub mod Shifts
pub mod Spots
