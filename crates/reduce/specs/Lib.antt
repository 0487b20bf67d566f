pub mod Mirror
pub mod Groups
pub mod Output
pub mod Lists
