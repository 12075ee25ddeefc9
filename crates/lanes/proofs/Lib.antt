pub mod Integers
pub mod Laws
pub mod Widths
pub mod Wrapping
pub mod Saturation
pub mod Built
pub mod AnyWidth
