pub mod Lamp
pub mod Theorems
pub mod Examples
