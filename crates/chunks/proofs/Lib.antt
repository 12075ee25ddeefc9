pub mod Joined
pub mod Parts
pub mod Strides
pub mod Renewed
