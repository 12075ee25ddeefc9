pub mod Host
pub mod Theorems
pub mod Examples
