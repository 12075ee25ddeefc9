pub mod Inverse
pub mod Apart
pub mod Flipped
