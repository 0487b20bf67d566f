pub mod Lines
pub mod Outline
pub mod Printed
pub mod Opened
