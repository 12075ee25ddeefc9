pub mod Calls
pub mod Theorems
pub mod Unique
