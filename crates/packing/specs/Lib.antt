pub mod Packing
pub mod Theorems
