pub mod Only
pub mod Equal
pub mod Own
pub mod Theorems
