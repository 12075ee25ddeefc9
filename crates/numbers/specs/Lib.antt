pub mod Numbers
pub mod Examples
pub mod Theorems
