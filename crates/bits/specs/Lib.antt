pub mod Bits
pub mod Replace
