pub mod Codec
pub mod Fields
