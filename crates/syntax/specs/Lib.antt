pub mod Syntax
pub mod Scan
