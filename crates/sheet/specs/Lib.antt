pub mod Below
pub mod Sheets
pub mod Document
