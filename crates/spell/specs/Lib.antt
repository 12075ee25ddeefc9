pub mod Spelled
pub mod Theorems
pub mod Examples
