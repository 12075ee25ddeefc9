pub mod Bits
pub mod Ones
pub mod Put
pub mod Files
