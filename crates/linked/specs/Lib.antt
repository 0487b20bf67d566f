pub mod Rows
pub mod Tables
pub mod Stores
pub mod Document
pub mod Places
