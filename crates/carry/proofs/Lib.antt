pub mod Contexts
pub mod Growing
pub mod Loading
